-- What rows of `clap` have for a name after uses of options, flags and paths, and when a use is a fault.
use Rattle.std.proofs.Common.{◌≡◌, ◌≤◌, refl, sym, ap, ap₂, subst, ◌∙◌, inl, inr, List, [], ◌∷◌, ◌++◌, length, map, Bool, true, false, ◌&&◌, Option, Some, None, is_some, unwrap_or, codes, bytes_eq, if◌then◌else◌, arith, append_assoc}
use Rattle.std.proofs.lemmas.Bool.{and_from, and_parts, cases_Bool, or_parts, false_from_ne_true, true≢false}
use Rattle.std.proofs.lemmas.Slice.Eq.{bytes_eq-Decides}
use Rattle.std.specs.List.{filter, filter_map, list_all, list_any}
use Rattle.clap.specs.Kinds.{or_else}
use Rattle.clap.specs.Simple.{Shape}
use Rattle.clap.specs.Walk.{Row, Text, all_of, has_row, with_values, without}
use Rattle.clap.specs.declared.builder.value_parser.Reading.{Reading}
use Rattle.clap.specs.declared.error.kind.ErrorKind.TheVariants as kind
use Rattle.clap.specs.declared.parser.matches.ValueSource.{ValueSource}
use Rattle.program_words.proofs.Line.{IsLine, bytes_eq_same, fits, options, or_else_parts, part_fault, parts_fault, parts_rows, rows_with, some_first}
use Rattle.program_words.specs.Synopsis.{LinePart, Word, option, flag, path, flag_of, is_part, is_plain, path_of, value_for}

pub turned : (a b : Word) → bytes_eq a b ≡ false → bytes_eq b a ≡ false
turned a b apart =
    false_from_ne_true (bytes_eq b a) (λ t. true≢false (sym ((bytes_eq-Decides a b).1 (sym ((bytes_eq-Decides b a).0 t))) ∙ apart))

-- ---- one more value under a name
pub look_same : (id : Text) (how : Reading) (source : ValueSource) (vs : List Text) (rows : List Row) → all_of id (with_values id how source vs rows) ≡ Some (unwrap_or (all_of id rows) [] ++ vs)
look_same id how source vs [] = rw (bytes_eq_same id) refl
look_same id how source vs (r ∷ rows) =
    elim (cases_Bool (bytes_eq r.id id)) [
      | inl same ↦ simp same
      | inr other ↦ simp other (look_same id how source vs rows)
    ]

pub look_other : (id other : Text) (how : Reading) (source : ValueSource) (vs : List Text) (rows : List Row) → bytes_eq id other ≡ false
    → all_of other (with_values id how source vs rows) ≡ all_of other rows
look_other id other how source vs [] apart = rw apart refl
look_other id other how source vs (r ∷ rows) apart =
    elim (cases_Bool (bytes_eq r.id id)) [
      | inl same ↦ let off : bytes_eq r.id other ≡ false = ap (λ (x : Text). bytes_eq x other) ((bytes_eq-Decides r.id id).0 same) ∙ apart in simp (same, off)
      | inr off_id ↦ elim (cases_Bool (bytes_eq r.id other)) [
        | inl here ↦ simp (off_id, here)
        | inr off ↦ simp (off_id, off) (look_other id other how source vs rows apart)
      ]
    ]

pub without_other : (id other : Text) (rows : List Row) → bytes_eq id other ≡ false → all_of other (without id rows) ≡ all_of other rows
without_other id other [] apart = refl
without_other id other (r ∷ rows) apart =
    elim (cases_Bool (bytes_eq r.id id)) [
      | inl same ↦ let off : bytes_eq r.id other ≡ false = ap (λ (x : Text). bytes_eq x other) ((bytes_eq-Decides r.id id).0 same) ∙ apart in simp (same, off)
      | inr off_id ↦ elim (cases_Bool (bytes_eq r.id other)) [
        | inl here ↦ simp (off_id, here)
        | inr off ↦ simp (off_id, off) (without_other id other rows apart)
      ]
    ]

pub without_none : (id : Text) (rows : List Row) → has_row id rows ≡ false → without id rows ≡ rows
without_none id [] none = refl
without_none id (r ∷ rows) none =
    let parts = or_parts (bytes_eq r.id id) (has_row id rows) none in
    rw parts.0 (ap (λ (xs : List Row). r ∷ xs) (without_none id rows parts.1))

pub has_look : (id : Text) (rows : List Row) → has_row id rows ≡ is_some (all_of id rows)
has_look id [] = refl
has_look id (r ∷ rows) =
    elim (cases_Bool (bytes_eq r.id id)) [
      | inl same ↦ simp same
      | inr other ↦ simp other (has_look id rows)
    ]

pub none_of : {A : Type 0} (o : Option A) → is_some o ≡ false → o ≡ None
none_of None e = refl
none_of (Some a) e = absurd (true≢false e)

-- values, and more of them
abbrev pub joined : Option (List Text) → List Text → Option (List Text)
joined None [] = None
joined None (x ∷ xs) = Some (x ∷ xs)
joined (Some ys) xs = Some (ys ++ xs)

append_nil : (xs : List Text) → xs ++ [] ≡ xs
append_nil [] = refl
append_nil (x ∷ xs) = ap (λ (ys : List Text). x ∷ ys) (append_nil xs)

pub joined_nil : (o : Option (List Text)) → joined o [] ≡ o
joined_nil None = refl
joined_nil (Some ys) = ap Some (append_nil ys)

joined_joined : (o : Option (List Text)) (xs ys : List Text) → joined (joined o xs) ys ≡ joined o (xs ++ ys)
joined_joined None [] ys = refl
joined_joined None (x ∷ xs) ys = refl
joined_joined (Some zs) xs ys = ap Some (append_assoc zs xs ys)

joined_some : (o : Option (List Text)) (x : Text) → is_some (joined o (x ∷ [])) ≡ true
joined_some None x = refl
joined_some (Some ys) x = refl

-- ---- a part's use
abbrev pub key_of : Word → LinePart → Word
key_of id (option name value) = name
key_of id (flag name) = name
key_of id (path text) = id

abbrev pub text_of : LinePart → Text
text_of (option name value) = value
text_of (flag name) = codes "true"
text_of (path text) = text

-- what a part gives to a name, and what parts do
abbrev pub given : Word → Word → LinePart → List Text
given id key part = if bytes_eq (key_of id part) key then text_of part ∷ [] else []

abbrev pub texts : Word → Word → List LinePart → List Text
texts id key [] = []
texts id key (part ∷ parts) = given id key part ++ texts id key parts

-- an option or a flag that was used is a fault
conflict : (b : Bool) → or_else (if b && true then kind.ArgumentConflict ∷ [] else []) [] ≡ [] → b ≡ false
conflict true e = absurd (some_first kind.ArgumentConflict [] e)
conflict false e = refl

no_conflict : (b : Bool) → b ≡ false → or_else (if b && true then kind.ArgumentConflict ∷ [] else []) [] ≡ []
no_conflict b e = rw e refl

look_by : (name key : Text) (v : Text) (new old : List Row) → all_of name new ≡ joined (all_of name old) (v ∷ []) → (bytes_eq name key ≡ false → all_of key new ≡ all_of key old)
    → all_of key new ≡ joined (all_of key old) (if bytes_eq name key then v ∷ [] else [])
look_by name key v new old here off =
    elim (cases_Bool (bytes_eq name key)) [
      | inl same ↦ rw same (subst (λ (k : Text). all_of k new ≡ joined (all_of k old) (v ∷ [])) ((bytes_eq-Decides name key).0 same) here)
      | inr apart ↦ rw apart (off apart ∙ sym (joined_nil (all_of key old)))
    ]

set_here : (name : Text) (how : Reading) (source : ValueSource) (v : Text) (rows : List Row) → has_row name rows ≡ false
    → all_of name (with_values name how source (v ∷ []) (without name rows)) ≡ joined (all_of name rows) (v ∷ [])
set_here name how source v rows fresh =
    let none = none_of (all_of name rows) (sym (has_look name rows) ∙ fresh) in
    look_same name how source (v ∷ []) (without name rows)
    ∙ ap (λ (them : List Row). Some (unwrap_or (all_of name them) [] ++ v ∷ [])) (without_none name rows fresh) ∙ rw none refl

add_here : (name : Text) (how : Reading) (source : ValueSource) (v : Text) (rows : List Row)
    → all_of name (with_values name how source (v ∷ []) rows) ≡ joined (all_of name rows) (v ∷ [])
add_here name how source v rows = look_same name how source (v ∷ []) rows ∙ by_rows (all_of name rows)
  where
    by_rows : (o : Option (List Text)) → Some (unwrap_or o [] ++ v ∷ []) ≡ joined o (v ∷ [])
    by_rows None = refl
    by_rows (Some ys) = refl

pub look_part : (id key : Word) (part : LinePart) (rows : List Row) → part_fault false id part rows ≡ [] → all_of key (rows_with id part rows) ≡ joined (all_of key rows) (given id key part)
look_part id key (option name value) rows none =
    look_by name key value _ rows (set_here name _ _ value rows (conflict (has_row name rows) none))
    (λ apart. look_other name key _ _ (value ∷ []) (without name rows) apart ∙ without_other name key rows apart)
look_part id key (flag name) rows none =
    look_by name key (codes "true") _ rows (set_here name _ _ (codes "true") rows (conflict (has_row name rows) none))
    (λ apart. look_other name key _ _ (codes "true" ∷ []) (without name rows) apart ∙ without_other name key rows apart)
look_part id key (path text) rows none =
    look_by id key text _ rows (add_here id _ _ text rows) (λ apart. look_other id key _ _ (text ∷ []) rows apart)

pub look_parts : (id key : Word) (parts : List LinePart) (rows : List Row) → parts_fault false id parts rows ≡ [] → all_of key (parts_rows id parts rows) ≡ joined (all_of key rows) (texts id key parts)
look_parts id key [] rows none = sym (joined_nil (all_of key rows))
look_parts id key (part ∷ parts) rows none =
    let faults = or_else_parts (part_fault false id part rows) (parts_fault false id parts (rows_with id part rows)) none in
    look_parts id key parts (rows_with id part rows) faults.1
    ∙ ap (λ (o : Option (List Text)). joined o (texts id key parts)) (look_part id key part rows faults.0)
    ∙ joined_joined (all_of key rows) (given id key part) (texts id key parts)

-- ---- each option and flag comes once
abbrev pub IsOnce : Word → Word → List LinePart → List Row → Type 0
IsOnce id key parts rows = (is_some (all_of key rows) ≡ true → texts id key parts ≡ []) × (length (texts id key parts) ≤ 1)

-- a name that is not that of the paths
is_fresh : (id key : Word) (part : LinePart) (rows : List Row) → bytes_eq id key ≡ false → bytes_eq (key_of id part) key ≡ true → part_fault false id part rows ≡ [] → is_some (all_of key rows) ≡ false
is_fresh id key (option name value) rows apart same none =
    subst (λ (k : Text). is_some (all_of k rows) ≡ false) ((bytes_eq-Decides name key).0 same) (sym (has_look name rows) ∙ conflict (has_row name rows) none)
is_fresh id key (flag name) rows apart same none =
    subst (λ (k : Text). is_some (all_of k rows) ≡ false) ((bytes_eq-Decides name key).0 same) (sym (has_look name rows) ∙ conflict (has_row name rows) none)
is_fresh id key (path text) rows apart same none = absurd (true≢false (sym same ∙ apart))

pub once_from : (id key : Word) (parts : List LinePart) (rows : List Row) → bytes_eq id key ≡ false → parts_fault false id parts rows ≡ [] → IsOnce id key parts rows
once_from id key [] rows apart none = ((λ some. refl), omega arith)
once_from id key (part ∷ parts) rows apart none =
    let faults = or_else_parts (part_fault false id part rows) (parts_fault false id parts (rows_with id part rows)) none in
    let more = once_from id key parts (rows_with id part rows) apart faults.1 in
    let look = look_part id key part rows faults.0 in
    elim (cases_Bool (bytes_eq (key_of id part) key)) [
      | inl same ↦
          let fresh = is_fresh id key part rows apart same faults.0 in
          let here : given id key part ≡ text_of part ∷ [] = rw same refl in
          let some : is_some (all_of key (rows_with id part rows)) ≡ true =
          ap (λ (o : Option (List Text)). is_some o) (look ∙ ap (joined (all_of key rows)) here) ∙ joined_some (all_of key rows) (text_of part) in
          let rest = more.0 some in
          let whole : texts id key (part ∷ parts) ≡ text_of part ∷ [] = ap (λ (xs : List Text). xs ++ texts id key parts) here ∙ ap (λ (xs : List Text). text_of part ∷ xs) rest in
          ((λ before. absurd (true≢false (sym before ∙ fresh))), omega (arith, ap (λ (xs : List Text). length xs) whole))
      | inr other ↦
          let here : given id key part ≡ [] = rw other refl in
          let whole : texts id key (part ∷ parts) ≡ texts id key parts = ap (λ (xs : List Text). xs ++ texts id key parts) here in
          let kept : all_of key (rows_with id part rows) ≡ all_of key rows = look ∙ ap (joined (all_of key rows)) here ∙ joined_nil (all_of key rows) in
          ((λ before. whole ∙ more.0 (ap (λ (o : Option (List Text)). is_some o) kept ∙ before)), omega (arith, more.1, ap (λ (xs : List Text). length xs) whole))
    ]

-- the other way: where each name comes once, no use is a fault
short_nil : (xs : List Text) (x : Text) → length (x ∷ xs) ≤ 1 → xs ≡ []
short_nil [] x few = refl
short_nil (y ∷ ys) x few = absurd (omega arith)

none_since : (b : Bool) (xs : List Text) (x : Text) → (b ≡ true → x ∷ xs ≡ []) → b ≡ false
none_since true xs x h = let e = h refl in absurd (cons_nil x xs e)
  where
    cons_nil : (x : Text) (xs : List Text) → x ∷ xs ≡ [] → ⊥
    cons_nil x xs e = cc
none_since false xs x h = refl

once_after : (id : Word) (part : LinePart) (parts : List LinePart) (rows : List Row) → part_fault false id part rows ≡ [] → ((key : Word) → bytes_eq id key ≡ false → IsOnce id key (part ∷ parts) rows)
    → (key : Word) → bytes_eq id key ≡ false → IsOnce id key parts (rows_with id part rows)
once_after id part parts rows fault once key apart =
    let look = look_part id key part rows fault in
    let before = once key apart in
    elim (cases_Bool (bytes_eq (key_of id part) key)) [
      | inl same ↦
          let here : given id key part ≡ text_of part ∷ [] = rw same refl in
          let whole : texts id key (part ∷ parts) ≡ text_of part ∷ texts id key parts = ap (λ (xs : List Text). xs ++ texts id key parts) here in
          let nil = short_nil (texts id key parts) (text_of part) (omega (arith, before.1, ap (λ (xs : List Text). length xs) whole)) in
          ((λ some. nil), omega (arith, ap (λ (xs : List Text). length xs) nil))
      | inr other ↦
          let here : given id key part ≡ [] = rw other refl in
          let whole : texts id key (part ∷ parts) ≡ texts id key parts = ap (λ (xs : List Text). xs ++ texts id key parts) here in
          let kept : all_of key (rows_with id part rows) ≡ all_of key rows = look ∙ ap (joined (all_of key rows)) here ∙ joined_nil (all_of key rows) in
          ((λ some. sym whole ∙ before.0 (ap (λ (o : Option (List Text)). is_some o) (sym kept) ∙ some)), omega (arith, before.1, ap (λ (xs : List Text). length xs) whole))
    ]

-- a name that comes once is fresh
fresh_once : (id name : Word) (part : LinePart) (parts : List LinePart) (rows : List Row) → key_of id part ≡ name → IsOnce id name (part ∷ parts) rows → has_row name rows ≡ false
fresh_once id name part parts rows is once =
    let same : bytes_eq (key_of id part) name ≡ true = ap (λ (k : Word). bytes_eq k name) is ∙ bytes_eq_same name in
    let here : given id name part ≡ text_of part ∷ [] = rw same refl in
    let whole : texts id name (part ∷ parts) ≡ text_of part ∷ texts id name parts = ap (λ (xs : List Text). xs ++ texts id name parts) here in
    has_look name rows ∙ none_since (is_some (all_of name rows)) (texts id name parts) (text_of part) (λ some. sym whole ∙ once.0 some)

pub no_faults : (s : Shape) (flags : List Word) (id : Word) → IsLine s flags id → (parts : List LinePart) (rows : List Row) → list_all (fits flags) parts ≡ true
    → ((key : Word) → bytes_eq id key ≡ false → IsOnce id key parts rows) → parts_fault false id parts rows ≡ []
no_faults s flags id l [] rows fit once = refl
no_faults s flags id l (option name value ∷ parts) rows fit once =
    let is = and_parts (list_any (bytes_eq name) options && is_plain value) (list_all (fits flags) parts) fit in
    let here = and_parts (list_any (bytes_eq name) options) (is_plain value) is.0 in
    let fresh = fresh_once id name (option name value) parts rows refl (once name (turned name id (l.apart_option name here.0))) in
    let none : part_fault false id (option name value) rows ≡ [] = no_conflict (has_row name rows) fresh in
    ap₂ or_else none (no_faults s flags id l parts (rows_with id (option name value) rows) is.1 (once_after id (option name value) parts rows none once))
no_faults s flags id l (flag name ∷ parts) rows fit once =
    let is = and_parts (list_any (bytes_eq name) flags) (list_all (fits flags) parts) fit in
    let fresh = fresh_once id name (flag name) parts rows refl (once name (turned name id (l.apart_flag name is.0))) in
    let none : part_fault false id (flag name) rows ≡ [] = no_conflict (has_row name rows) fresh in
    ap₂ or_else none (no_faults s flags id l parts (rows_with id (flag name) rows) is.1 (once_after id (flag name) parts rows none once))
no_faults s flags id l (path text ∷ parts) rows fit once =
    let is = and_parts (is_plain text) (list_all (fits flags) parts) fit in
    no_faults s flags id l parts (rows_with id (path text) rows) is.1 (once_after id (path text) parts rows refl once)

-- ---- what options, flags and paths there are among parts
pub values_are : (s : Shape) (flags : List Word) (id name : Word) → IsLine s flags id → list_any (bytes_eq name) options ≡ true → (parts : List LinePart) → list_all (fits flags) parts ≡ true
    → texts id name parts ≡ filter_map (value_for name) parts
values_are s flags id name l is [] fit = refl
values_are s flags id name l is (option other value ∷ parts) fit =
    let more = values_are s flags id name l is parts (and_parts (list_any (bytes_eq other) options && is_plain value) (list_all (fits flags) parts) fit).1 in
    elim (cases_Bool (bytes_eq other name)) [
      | inl same ↦ rw same (ap (λ (xs : List Text). value ∷ xs) more)
      | inr apart ↦ rw apart more
    ]
values_are s flags id name l is (flag other ∷ parts) fit =
    let here = and_parts (list_any (bytes_eq other) flags) (list_all (fits flags) parts) fit in
    rw (l.apart other name here.0 is) (values_are s flags id name l is parts here.1)
values_are s flags id name l is (path text ∷ parts) fit =
    rw (turned name id (l.apart_option name is)) (values_are s flags id name l is parts (and_parts (is_plain text) (list_all (fits flags) parts) fit).1)

pub paths_are : (s : Shape) (flags : List Word) (id : Word) → IsLine s flags id → (parts : List LinePart) → list_all (fits flags) parts ≡ true → texts id id parts ≡ filter_map path_of parts
paths_are s flags id l [] fit = refl
paths_are s flags id l (option other value ∷ parts) fit =
    let is = and_parts (list_any (bytes_eq other) options && is_plain value) (list_all (fits flags) parts) fit in
    rw (l.apart_option other (and_parts (list_any (bytes_eq other) options) (is_plain value) is.0).0) (paths_are s flags id l parts is.1)
paths_are s flags id l (flag other ∷ parts) fit =
    let is = and_parts (list_any (bytes_eq other) flags) (list_all (fits flags) parts) fit in
    rw (l.apart_flag other is.0) (paths_are s flags id l parts is.1)
paths_are s flags id l (path text ∷ parts) fit =
    rw (bytes_eq_same id) (ap (λ (xs : List Text). text ∷ xs) (paths_are s flags id l parts (and_parts (is_plain text) (list_all (fits flags) parts) fit).1))

-- how often a flag is given is how often its text comes
abbrev pub is_flag : Word → Word → Bool
is_flag key name = bytes_eq name key

pub flags_are : (s : Shape) (flags : List Word) (id key : Word) → IsLine s flags id → list_any (bytes_eq key) flags ≡ true → (parts : List LinePart) → list_all (fits flags) parts ≡ true
    → texts id key parts ≡ map (λ name. codes "true") (filter (is_flag key) (filter_map flag_of parts))
flags_are s flags id key l is [] fit = refl
flags_are s flags id key l is (option other value ∷ parts) fit =
    let here = and_parts (list_any (bytes_eq other) options && is_plain value) (list_all (fits flags) parts) fit in
    rw (turned key other (l.apart key other is (and_parts (list_any (bytes_eq other) options) (is_plain value) here.0).0)) (flags_are s flags id key l is parts here.1)
flags_are s flags id key l is (flag other ∷ parts) fit =
    let more = flags_are s flags id key l is parts (and_parts (list_any (bytes_eq other) flags) (list_all (fits flags) parts) fit).1 in
    elim (cases_Bool (bytes_eq other key)) [
      | inl same ↦ rw same (ap (λ (xs : List Text). codes "true" ∷ xs) more)
      | inr apart ↦ rw apart more
    ]
flags_are s flags id key l is (path text ∷ parts) fit =
    rw (turned key id (l.apart_flag key is)) (flags_are s flags id key l is parts (and_parts (is_plain text) (list_all (fits flags) parts) fit).1)

pub flags_fit : (flags : List Word) (parts : List LinePart) → list_all (fits flags) parts ≡ true → list_all (λ name. list_any (bytes_eq name) flags) (filter_map flag_of parts) ≡ true
flags_fit flags [] fit = refl
flags_fit flags (option other value ∷ parts) fit = flags_fit flags parts (and_parts (list_any (bytes_eq other) options && is_plain value) (list_all (fits flags) parts) fit).1
flags_fit flags (flag name ∷ parts) fit =
    let is = and_parts (list_any (bytes_eq name) flags) (list_all (fits flags) parts) fit in
    and_from (list_any (bytes_eq name) flags) _ is.0 (flags_fit flags parts is.1)
flags_fit flags (path text ∷ parts) fit = flags_fit flags parts (and_parts (is_plain text) (list_all (fits flags) parts) fit).1

-- the parts of the synopsis, whose flags these are
pub parts_fit : (flags : List Word) (parts : List LinePart) → list_all is_part parts ≡ true → list_all (λ name. list_any (bytes_eq name) flags) (filter_map flag_of parts) ≡ true → list_all (fits flags) parts ≡ true
parts_fit flags [] known them = refl
parts_fit flags (option name value ∷ parts) known them =
    let is = and_parts (is_part (option name value)) (list_all is_part parts) known in
    and_from (fits flags (option name value)) _ is.0 (parts_fit flags parts is.1 them)
parts_fit flags (flag name ∷ parts) known them =
    let here = and_parts (list_any (bytes_eq name) flags) (list_all (λ other. list_any (bytes_eq other) flags) (filter_map flag_of parts)) them in
    and_from (list_any (bytes_eq name) flags) _ here.0 (parts_fit flags parts known here.1)
parts_fit flags (path text ∷ parts) known them =
    let is = and_parts (is_plain text) (list_all is_part parts) known in
    and_from (is_plain text) _ is.0 (parts_fit flags parts is.1 them)

pub fit_parts : (flags : List Word) (parts : List LinePart) → list_all (fits flags) parts ≡ true → list_all is_part parts ≡ true
fit_parts flags [] fit = refl
fit_parts flags (option name value ∷ parts) fit =
    let is = and_parts (fits flags (option name value)) (list_all (fits flags) parts) fit in
    and_from (is_part (option name value)) _ is.0 (fit_parts flags parts is.1)
fit_parts flags (flag name ∷ parts) fit = fit_parts flags parts (and_parts (list_any (bytes_eq name) flags) (list_all (fits flags) parts) fit).1
fit_parts flags (path text ∷ parts) fit =
    let is = and_parts (is_plain text) (list_all (fits flags) parts) fit in
    and_from (is_plain text) _ is.0 (fit_parts flags parts is.1)

-- a name that no option and no flag has is given nothing
pub nothing_given : (flags : List Word) (id key : Word) → list_any (bytes_eq key) options ≡ false → list_any (bytes_eq key) flags ≡ false → bytes_eq id key ≡ false → (parts : List LinePart)
    → list_all (fits flags) parts ≡ true → texts id key parts ≡ []
nothing_given flags id key unlike none apart [] fit = refl
nothing_given flags id key unlike none apart (option other value ∷ parts) fit =
    let is = and_parts (list_any (bytes_eq other) options && is_plain value) (list_all (fits flags) parts) fit in
    let off : bytes_eq other key ≡ false = false_from_ne_true (bytes_eq other key)
    (λ same. true≢false (sym (and_parts (list_any (bytes_eq other) options) (is_plain value) is.0).0 ∙ ap (λ (w : Word). list_any (bytes_eq w) options) ((bytes_eq-Decides other key).0 same) ∙ unlike)) in
    rw off (nothing_given flags id key unlike none apart parts is.1)
nothing_given flags id key unlike none apart (flag other ∷ parts) fit =
    let is = and_parts (list_any (bytes_eq other) flags) (list_all (fits flags) parts) fit in
    let off : bytes_eq other key ≡ false = false_from_ne_true (bytes_eq other key)
    (λ same. true≢false (sym is.0 ∙ ap (λ (w : Word). list_any (bytes_eq w) flags) ((bytes_eq-Decides other key).0 same) ∙ none)) in
    rw off (nothing_given flags id key unlike none apart parts is.1)
nothing_given flags id key unlike none apart (path text ∷ parts) fit =
    rw apart (nothing_given flags id key unlike none apart parts (and_parts (is_plain text) (list_all (fits flags) parts) fit).1)
