-- A command line of options, flags and paths, as `clap` reads it: a walk over words finds their parts, or a fault.
use Rattle.std.proofs.Common.{◌≡◌, ◌⊎◌, refl, sym, ap, ap₂, ◌∙◌, inl, inr, List, [], ◌∷◌, ◌++◌, Bool, true, false, ◌&&◌, ◌==◌, Option, Some, None, codes, bytes_eq, flat_map, fold}
use Rattle.std.proofs.lemmas.Bool.{and_parts, and_from, cases_Bool, true≢false}
use Rattle.std.proofs.lemmas.Slice.Eq.{bytes_eq-Decides}
use Rattle.std.specs.List.{list_all, list_any}
use Rattle.clap.specs.Faults.{long_fault, settle_fault, step_fault, turn_fault, use_fault, walk_fault, word_fault}
use Rattle.clap.specs.Kinds.{Kinds, or_else}
use Rattle.clap.specs.Lexer.{long_of, short_of}
use Rattle.clap.specs.declared.error.kind.ErrorKind.{ErrorKind}
use Rattle.clap.specs.declared.error.kind.ErrorKind.TheVariants as kind
use Rattle.clap.specs.Simple.{Shape, filled, with_index}
use Rattle.clap.specs.Walk.{Held, Row, Rule, Step, Text, Walk, Waiting, after_flag, after_step, arg_by_id, arg_by_index, arg_by_long, long_met, plain_word, settled_rows, subcommand_met, used, walked, word_met}
use Rattle.clap.specs.Walk as clap
use Rattle.program_words.specs.CommandLine as line
use Rattle.program_words.specs.Synopsis.{LinePart, Word, option, flag, path, words_of, is_plain}

-- the rules of an option, a flag and the paths, as `clap` completes them
abbrev pub option_rule : Word → Rule
option_rule name = filled (line.option name)

abbrev pub flag_rule : Word → Rule
flag_rule name = filled (line.flag name)

abbrev pub path_rule : Word → Rule
path_rule id = with_index 1 (filled (line.others id))

abbrev pub options : List Word
options = codes "store" ∷ codes "workers" ∷ codes "max-blocks" ∷ []

-- a name after two hyphens is that of a rule
pub record IsName (rules : List Rule) (name : Word) (rule : Rule) : Type 0 where
  pub long : long_of (codes "--" ++ name) ≡ Some (name, None)
  pub no_end : bytes_eq (codes "--" ++ name) (45 ∷ 45 ∷ []) ≡ false
  pub found : arg_by_long rules name ≡ Some rule

-- a command line of the three options, of these flags, and of paths under this name
pub record IsLine (s : Shape) (flags : List Word) (id : Word) : Type 0 where
  pub option_names : (name : Word) → list_any (bytes_eq name) options ≡ true → IsName s.rules name (option_rule name)
  pub option_ids : (name : Word) → list_any (bytes_eq name) options ≡ true → arg_by_id s.rules name ≡ Some (option_rule name)
  pub flag_names : (name : Word) → list_any (bytes_eq name) flags ≡ true → IsName s.rules name (flag_rule name)
  pub path_index : arg_by_index s.rules 1 ≡ Some (path_rule id)
  pub path_id : arg_by_id s.rules id ≡ Some (path_rule id)
  pub once : s.args_override_self ≡ false
  pub apart_option : (name : Word) → list_any (bytes_eq name) options ≡ true → bytes_eq name id ≡ false
  pub apart_flag : (name : Word) → list_any (bytes_eq name) flags ≡ true → bytes_eq name id ≡ false
  pub apart : (name other : Word) → list_any (bytes_eq name) flags ≡ true → list_any (bytes_eq other) options ≡ true → bytes_eq name other ≡ false

-- ---- kinds of faults in turn
pub or_else_nil : (a : Kinds) → or_else a [] ≡ a
or_else_nil [] = refl
or_else_nil (k ∷ ks) = refl

pub or_else_assoc : (a b c : Kinds) → or_else (or_else a b) c ≡ or_else a (or_else b c)
or_else_assoc [] b c = refl
or_else_assoc (k ∷ ks) b c = refl

pub or_else_parts : (a b : Kinds) → or_else a b ≡ [] → (a ≡ []) × (b ≡ [])
or_else_parts [] b e = (refl, e)
or_else_parts (k ∷ ks) b e = (e, absurd (cc))

-- ---- one word
no_subcommand : (waiting : Waiting) (word : Word) → subcommand_met [] waiting word ≡ None
no_subcommand clap.idle word = refl
no_subcommand (clap.option id) word = refl
no_subcommand clap.positional word = refl

-- what is held between two words: rows, and what waits to be used
abbrev pub held : List Row → Option (Text × List Text) → Held
held rows pending = record { rows = rows; pending = pending; skip = 0 }

-- the walk between two words
abbrev pub at : List Row → Option (Text × List Text) → Waiting → Walk
at rows pending waiting =
    record { held = held rows pending; waiting = waiting; position = 1; is_trailing = false; stopped = None }

-- nothing waits for a value
abbrev pub free : Bool → Waiting
free false = clap.idle
free true = clap.positional

met_name : (rules : List Rule) (name : Word) (rule : Rule) (waiting : Waiting) (h : Held) → IsName rules name rule
    → word_met rules [] false waiting 1 (codes "--" ++ name) h
    ≡ after_flag rules waiting (codes "--" ++ name) (long_met rules (Some rule) None h).0 (long_met rules (Some rule) None h).1
met_name rules name rule waiting h n =
    rw (no_subcommand waiting (codes "--" ++ name), n.no_end, n.long, n.found) refl

pub bytes_eq_same : (word : Word) → bytes_eq word word ≡ true
bytes_eq_same word = (bytes_eq-Decides word word).1 refl

and_no : (b : Bool) → (b && false) ≡ false
and_no true = refl
and_no false = refl

-- a value or a path, to `clap`: no end of options, no long name, no short one
record IsNoFlag (word : Word) : Type 0 where
  pub no_end : bytes_eq word (45 ∷ 45 ∷ []) ≡ false
  pub no_long : long_of word ≡ None
  pub no_short : short_of word ≡ None

no_flag : (word : Word) → is_plain word ≡ true → IsNoFlag word
no_flag [] plain = record { no_end = refl; no_long = refl; no_short = refl }
no_flag (b ∷ []) plain =
    elim (cases_Bool (b == 45)) [
      | inl hyphen ↦ record { no_end = rw hyphen refl; no_long = rw hyphen refl; no_short = rw hyphen refl }
      | inr other ↦ record { no_end = rw other refl; no_long = rw other refl; no_short = rw other refl }
    ]
no_flag (b ∷ c ∷ rest) plain =
    elim (cases_Bool (b == 45)) [
      | inl hyphen ↦ absurd (true≢false (sym plain ∙ rw hyphen refl))
      | inr other ↦ record { no_end = rw other refl; no_long = rw other refl; no_short = rw other refl }
    ]

met_plain : (rules : List Rule) (waiting : Waiting) (word : Word) (h : Held) → is_plain word ≡ true → word_met rules [] false waiting 1 word h ≡ plain_word rules waiting word h
met_plain rules waiting word h plain =
    let n = no_flag word plain in
    rw (no_subcommand waiting word, n.no_end, n.no_long, n.no_short) refl

-- what a word does to a walk, and its fault, by what it is
step_by : (rules : List Rule) (rows : List Row) (p : Option (Text × List Text)) (waiting : Waiting) (word : Word) (h : Held) (step : Step)
    → word_met rules [] false waiting 1 word (held rows p) ≡ (h, step) → walked rules [] (at rows p waiting) word ≡ after_step rules word (at rows p waiting) h step
unfolding walked
step_by rules rows p waiting word h step e = ap (λ (m : Held × Step). after_step rules word (at rows p waiting) m.0 m.1) e

turn_by : (s : Shape) (rows : List Row) (p : Option (Text × List Text)) (waiting : Waiting) (word : Word) (h : Held) (step : Step)
    → word_met s.rules [] false waiting 1 word (held rows p) ≡ (h, step)
    → turn_fault s [] (at rows p waiting) word ≡ or_else (word_fault s [] false waiting word (held rows p)) (step_fault s 1 h step)
turn_by s rows p waiting word h step e =
    ap (λ (m : Held × Step). or_else (word_fault s [] false waiting word (held rows p)) (step_fault s 1 m.0 m.1)) e

fault_name : (s : Shape) (name : Word) (rule : Rule) (waiting : Waiting) (h : Held) → IsName s.rules name rule
    → word_fault s [] false waiting (codes "--" ++ name) h ≡ long_fault s.rules s.args_override_self (Some rule) None h
fault_name s name rule waiting h n =
    rw (no_subcommand waiting (codes "--" ++ name), n.no_end, n.long, n.found) refl

fault_plain : (s : Shape) (waiting : Waiting) (word : Word) (h : Held) → is_plain word ≡ true → word_fault s [] false waiting word h ≡ []
fault_plain s waiting word h plain =
    let n = no_flag word plain in
    rw (no_subcommand waiting word, n.no_end, n.no_long, n.no_short) refl

-- ---- parts
-- the rule that a part uses, and the values that it gives to it
abbrev pub rule_in : Word → LinePart → Rule
rule_in id (option name value) = option_rule name
rule_in id (flag name) = flag_rule name
rule_in id (path text) = path_rule id

abbrev pub texts_in : LinePart → List Text
texts_in (option name value) = value ∷ []
texts_in (flag name) = []
texts_in (path text) = text ∷ []

-- the rows after a part's use, and after those of parts; the faults of uses
abbrev pub rows_with : Word → LinePart → List Row → List Row
rows_with id part rows = used (rule_in id part) (texts_in part) rows

abbrev pub part_fault : Bool → Word → LinePart → List Row → Kinds
part_fault again id part rows = use_fault again (rule_in id part) (texts_in part) rows

abbrev pub parts_rows : Word → List LinePart → List Row → List Row
parts_rows id [] rows = rows
parts_rows id (part ∷ parts) rows = parts_rows id parts (rows_with id part rows)

abbrev pub parts_fault : Bool → Word → List LinePart → List Row → Kinds
parts_fault again id [] rows = []
parts_fault again id (part ∷ parts) rows = or_else (part_fault again id part rows) (parts_fault again id parts (rows_with id part rows))

-- whether a part is one of a command line with these flags
abbrev pub fits : List Word → LinePart → Bool
fits flags (option name value) = list_any (bytes_eq name) options && is_plain value
fits flags (flag name) = list_any (bytes_eq name) flags
fits flags (path text) = is_plain text

-- ---- a whole walk: its first fault, and the rows at its end
abbrev pub ending : Shape → Walk → List Word → Walk
ending s w words = fold (walked s.rules []) w words

abbrev pub total : Shape → Walk → List Word → Kinds
total s w words = or_else (walk_fault s [] w words) (settle_fault s.rules s.args_override_self (ending s w words).held)

abbrev pub rows_at_end : Shape → Walk → List Word → List Row
rows_at_end s w words = settled_rows s.rules (ending s w words).held.pending (ending s w words).held.rows

next : (s : Shape) (w after : Walk) (word : Word) (rest : List Word) (kinds : Kinds) → walked s.rules [] w word ≡ after → turn_fault s [] w word ≡ kinds
    → total s w (word ∷ rest) ≡ or_else kinds (total s after rest)
unfolding walk_fault
next s w after word rest kinds step turn =
    or_else_assoc (turn_fault s [] w word) (walk_fault s [] (walked s.rules [] w word) rest) (settle_fault s.rules s.args_override_self (ending s (walked s.rules [] w word) rest).held)
    ∙ ap (λ (k : Kinds). or_else k (total s (walked s.rules [] w word) rest)) turn ∙ ap (λ (x : Walk). or_else kinds (total s x rest)) step

-- a word of a command line: a value or a path, the name of an option, or a flag
pub record IsOption (word : Word) : Type 0 where
  pub name : Word
  pub is : list_any (bytes_eq name) options ≡ true
  pub spelled : word ≡ codes "--" ++ name

pub record IsFlag (flags : List Word) (word : Word) : Type 0 where
  pub name : Word
  pub is : list_any (bytes_eq name) flags ≡ true
  pub spelled : word ≡ codes "--" ++ name

abbrev pub IsKnown : List Word → Word → Type 0
IsKnown flags word = (is_plain word ≡ true) ⊎ (IsOption word ⊎ IsFlag flags word)

-- the parts of words, and those after the name of an option: a value comes first
pub record Found (flags : List Word) (words : List Word) : Type 0 where
  pub parts : List LinePart
  pub fit : list_all (fits flags) parts ≡ true
  pub spelled : words ≡ flat_map words_of parts

pub record FoundValue (flags : List Word) (words : List Word) : Type 0 where
  pub value : Word
  pub rest : List Word
  pub plain : is_plain value ≡ true
  pub first : words ≡ value ∷ rest
  pub found : Found flags rest

pub some_first : (k : ErrorKind) (ks : Kinds) → k ∷ ks ≡ [] → ⊥
some_first k ks e = cc

-- what a walk from between two words makes of parts
pub record Reads (s : Shape) (id : Word) (rows : List Row) (p : Option (Text × List Text)) (waiting : Waiting) (parts : List LinePart) : Type 0 where
  pub faults : total s (at rows p waiting) (flat_map words_of parts)
      ≡ or_else (settle_fault s.rules s.args_override_self (held rows p)) (parts_fault s.args_override_self id parts (settled_rows s.rules p rows))
  pub at_end : rows_at_end s (at rows p waiting) (flat_map words_of parts) ≡ parts_rows id parts (settled_rows s.rules p rows)

module _ (s : Shape) (flags : List Word) (id : Word) (l : IsLine s flags id) where
  -- what uses a pending rule
  settle_is : (rows : List Row) (name : Text) (vs : List Text) (rule : Rule) → arg_by_id s.rules name ≡ Some rule
      → settle_fault s.rules s.args_override_self (held rows (Some (name, vs))) ≡ use_fault s.args_override_self rule vs rows
  settle_is rows name vs rule e = rw e refl

  settled_is : (rows : List Row) (name : Text) (vs : List Text) (rule : Rule) → arg_by_id s.rules name ≡ Some rule
      → settled_rows s.rules (Some (name, vs)) rows ≡ used rule vs rows
  settled_is rows name vs rule e = rw e refl

  -- the name of an option
  option_step : (rows : List Row) (p : Option (Text × List Text)) (waiting : Waiting) (name : Word) → list_any (bytes_eq name) options ≡ true
      → walked s.rules [] (at rows p waiting) (codes "--" ++ name) ≡ at (settled_rows s.rules p rows) (Some (name, [])) (clap.option name)
  option_step rows p waiting name is =
      step_by s.rules rows p waiting (codes "--" ++ name) _ _ (met_name s.rules name (option_rule name) waiting (held rows p) (l.option_names name is))

  option_turn : (rows : List Row) (p : Option (Text × List Text)) (waiting : Waiting) (name : Word) → list_any (bytes_eq name) options ≡ true
      → turn_fault s [] (at rows p waiting) (codes "--" ++ name) ≡ settle_fault s.rules s.args_override_self (held rows p)
  option_turn rows p waiting name is =
      turn_by s rows p waiting (codes "--" ++ name) _ _ (met_name s.rules name (option_rule name) waiting (held rows p) (l.option_names name is))
      ∙ or_else_nil _ ∙ fault_name s name (option_rule name) waiting (held rows p) (l.option_names name is)

  -- the value of an option
  met_value : (rows : List Row) (name : Word) (value : Word) → list_any (bytes_eq name) options ≡ true
      → plain_word s.rules (clap.option name) value (held rows (Some (name, []))) ≡ (held rows (Some (name, value ∷ [])), clap.next clap.idle)
  met_value rows name value is = rw (l.option_ids name is, bytes_eq_same name) refl

  value_step : (rows : List Row) (name value : Word) → list_any (bytes_eq name) options ≡ true → is_plain value ≡ true
      → walked s.rules [] (at rows (Some (name, [])) (clap.option name)) value ≡ at rows (Some (name, value ∷ [])) clap.idle
  value_step rows name value is plain =
      step_by s.rules rows (Some (name, [])) (clap.option name) value _ _
      (met_plain s.rules (clap.option name) value (held rows (Some (name, []))) plain ∙ met_value rows name value is)

  value_turn : (rows : List Row) (name value : Word) → list_any (bytes_eq name) options ≡ true → is_plain value ≡ true
      → turn_fault s [] (at rows (Some (name, [])) (clap.option name)) value ≡ []
  value_turn rows name value is plain =
      turn_by s rows (Some (name, [])) (clap.option name) value _ _
      (met_plain s.rules (clap.option name) value (held rows (Some (name, []))) plain ∙ met_value rows name value is)
      ∙ or_else_nil _ ∙ fault_plain s (clap.option name) value (held rows (Some (name, []))) plain

  -- a flag
  flag_step : (rows : List Row) (p : Option (Text × List Text)) (waiting : Waiting) (name : Word) → list_any (bytes_eq name) flags ≡ true
      → walked s.rules [] (at rows p waiting) (codes "--" ++ name) ≡ at (used (flag_rule name) [] (settled_rows s.rules p rows)) None clap.idle
  flag_step rows p waiting name is =
      step_by s.rules rows p waiting (codes "--" ++ name) _ _ (met_name s.rules name (flag_rule name) waiting (held rows p) (l.flag_names name is))

  flag_turn : (rows : List Row) (p : Option (Text × List Text)) (waiting : Waiting) (name : Word) → list_any (bytes_eq name) flags ≡ true
      → turn_fault s [] (at rows p waiting) (codes "--" ++ name)
      ≡ or_else (settle_fault s.rules s.args_override_self (held rows p)) (use_fault s.args_override_self (flag_rule name) [] (settled_rows s.rules p rows))
  flag_turn rows p waiting name is =
      turn_by s rows p waiting (codes "--" ++ name) _ _ (met_name s.rules name (flag_rule name) waiting (held rows p) (l.flag_names name is))
      ∙ or_else_nil _ ∙ fault_name s name (flag_rule name) waiting (held rows p) (l.flag_names name is)

  -- a path
  met_free : (b : Bool) (word : Word) (h : Held) → plain_word s.rules (free b) word h ≡ (h, clap.value)
  met_free true word h = refl
  met_free false word h = refl

  met_path : (rows : List Row) (p : Option (Text × List Text)) (b : Bool) (word : Word) → is_plain word ≡ true
      → word_met s.rules [] false (free b) 1 word (held rows p) ≡ (held rows p, clap.value)
  met_path rows p b word plain = met_plain s.rules (free b) word (held rows p) plain ∙ met_free b word (held rows p)

  path_step : (rows : List Row) (p : Option (Text × List Text)) (b : Bool) (word : Word) → is_plain word ≡ true
      → walked s.rules [] (at rows p (free b)) word ≡ at (settled_rows s.rules p rows) (Some (id, word ∷ [])) clap.positional
  path_step rows p b word plain =
      step_by s.rules rows p (free b) word _ _ (met_path rows p b word plain)
      ∙ rw (l.path_index, and_no (clap.is_pending (path_rule id) p)) refl

  path_turn : (rows : List Row) (p : Option (Text × List Text)) (b : Bool) (word : Word) → is_plain word ≡ true
      → turn_fault s [] (at rows p (free b)) word ≡ settle_fault s.rules s.args_override_self (held rows p)
  path_turn rows p b word plain =
      turn_by s rows p (free b) word _ _ (met_path rows p b word plain)
      ∙ ap (λ (k : Kinds). or_else k (step_fault s 1 (held rows p) clap.value)) (fault_plain s (free b) word (held rows p) plain)
      ∙ rw (l.path_index, and_no (clap.is_pending (path_rule id) p)) refl

  -- parts, one after another
  pub reads : (rows : List Row) (p : Option (Text × List Text)) (b : Bool) (parts : List LinePart) → list_all (fits flags) parts ≡ true → Reads s id rows p (free b) parts
  unfolding walk_fault
  reads rows p b [] fit = record { faults = sym (or_else_nil (settle_fault s.rules s.args_override_self (held rows p))); at_end = refl }
  reads rows p b (option name value ∷ parts) fit =
      let is = and_parts (list_any (bytes_eq name) options && is_plain value) (list_all (fits flags) parts) fit in
      let here = and_parts (list_any (bytes_eq name) options) (is_plain value) is.0 in
      let now = settled_rows s.rules p rows in
      let rest = flat_map words_of parts in
      let first = next s (at rows p (free b)) _ (codes "--" ++ name) (value ∷ rest) _ (option_step rows p (free b) name here.0) (option_turn rows p (free b) name here.0) in
      let second = next s (at now (Some (name, [])) (clap.option name)) _ value rest _ (value_step now name value here.0 here.1) (value_turn now name value here.0 here.1) in
      let more = reads now (Some (name, value ∷ [])) false parts is.1 in
      let used_now = settled_is now name (value ∷ []) (option_rule name) (l.option_ids name here.0) in
      let fault_now = settle_is now name (value ∷ []) (option_rule name) (l.option_ids name here.0) in
      record {
        faults = first ∙ ap (or_else (settle_fault s.rules s.args_override_self (held rows p)))
            (second ∙ more.faults ∙ ap₂ or_else fault_now (ap (parts_fault s.args_override_self id parts) used_now));
        at_end =
            ap (λ (x : Walk). rows_at_end s (walked s.rules [] x value) rest) (option_step rows p (free b) name here.0)
            ∙ ap (λ (x : Walk). rows_at_end s x rest) (value_step now name value here.0 here.1) ∙ more.at_end ∙ ap (parts_rows id parts) used_now;
      }
  reads rows p b (flag name ∷ parts) fit =
      let is = and_parts (list_any (bytes_eq name) flags) (list_all (fits flags) parts) fit in
      let now = settled_rows s.rules p rows in
      let rest = flat_map words_of parts in
      let first = next s (at rows p (free b)) _ (codes "--" ++ name) rest _ (flag_step rows p (free b) name is.0) (flag_turn rows p (free b) name is.0) in
      let more = reads (used (flag_rule name) [] now) None false parts is.1 in
      let before = settle_fault s.rules s.args_override_self (held rows p) in
      let again = use_fault s.args_override_self (flag_rule name) [] now in
      record {
        faults = first ∙ ap (or_else (or_else before again)) more.faults ∙ or_else_assoc before again (parts_fault s.args_override_self id parts (used (flag_rule name) [] now));
        at_end = ap (λ (x : Walk). rows_at_end s x rest) (flag_step rows p (free b) name is.0) ∙ more.at_end;
      }
  reads rows p b (path text ∷ parts) fit =
      let is = and_parts (is_plain text) (list_all (fits flags) parts) fit in
      let now = settled_rows s.rules p rows in
      let rest = flat_map words_of parts in
      let first = next s (at rows p (free b)) _ text rest _ (path_step rows p b text is.0) (path_turn rows p b text is.0) in
      let more = reads now (Some (id, text ∷ [])) true parts is.1 in
      let used_now = settled_is now id (text ∷ []) (path_rule id) l.path_id in
      let fault_now = settle_is now id (text ∷ []) (path_rule id) l.path_id in
      record {
        faults = first ∙ ap (or_else (settle_fault s.rules s.args_override_self (held rows p)))
            (more.faults ∙ ap₂ or_else fault_now (ap (parts_fault s.args_override_self id parts) used_now));
        at_end = ap (λ (x : Walk). rows_at_end s x rest) (path_step rows p b text is.0) ∙ more.at_end ∙ ap (parts_rows id parts) used_now;
      }

  -- ---- words without a fault are parts
  no_value : (rows : List Row) (name : Word) → list_any (bytes_eq name) options ≡ true → settle_fault s.rules s.args_override_self (held rows (Some (name, []))) ≡ [] → ⊥
  no_value rows name is none =
      some_first kind.InvalidValue [] (sym (settle_is rows name [] (option_rule name) (l.option_ids name is)) ∙ none)

  value_lacks : (rows : List Row) (name : Word) → list_any (bytes_eq name) options ≡ true → total s (at rows (Some (name, [])) (clap.option name)) [] ≡ [] → ⊥
  unfolding walk_fault
  value_lacks rows name is none = no_value rows name is none

  -- the fault of a word is none, and so is that of the words after it
  both_none : (w after : Walk) (word : Word) (rest : List Word) (kinds : Kinds) → walked s.rules [] w word ≡ after → turn_fault s [] w word ≡ kinds
      → total s w (word ∷ rest) ≡ [] → (kinds ≡ []) × (total s after rest ≡ [])
  both_none w after word rest kinds step turn none =
      or_else_parts kinds (total s after rest) (sym (next s w after word rest kinds step turn) ∙ none)

  named_none : (rows : List Row) (p : Option (Text × List Text)) (waiting : Waiting) (word : Word) (rest : List Word) (o : IsOption word)
      → total s (at rows p waiting) (word ∷ rest) ≡ []
      → (settle_fault s.rules s.args_override_self (held rows p) ≡ []) × (total s (at (settled_rows s.rules p rows) (Some (o.name, [])) (clap.option o.name)) rest ≡ [])
  named_none rows p waiting word rest o none =
      both_none (at rows p waiting) _ word rest _
      (ap (walked s.rules [] (at rows p waiting)) o.spelled ∙ option_step rows p waiting o.name o.is)
      (ap (turn_fault s [] (at rows p waiting)) o.spelled ∙ option_turn rows p waiting o.name o.is) none

  flag_none : (rows : List Row) (p : Option (Text × List Text)) (waiting : Waiting) (word : Word) (rest : List Word) (f : IsFlag flags word)
      → total s (at rows p waiting) (word ∷ rest) ≡ []
      → (settle_fault s.rules s.args_override_self (held rows p) ≡ []) × (total s (at (used (flag_rule f.name) [] (settled_rows s.rules p rows)) None clap.idle) rest ≡ [])
  flag_none rows p waiting word rest f none =
      let parts = both_none (at rows p waiting) _ word rest _
      (ap (walked s.rules [] (at rows p waiting)) f.spelled ∙ flag_step rows p waiting f.name f.is)
      (ap (turn_fault s [] (at rows p waiting)) f.spelled ∙ flag_turn rows p waiting f.name f.is) none in
      ((or_else_parts _ _ parts.0).0, parts.1)

  with_path : (word : Word) (rest : List Word) → is_plain word ≡ true → Found flags rest → Found flags (word ∷ rest)
  with_path word rest plain f =
      record { parts = path word ∷ f.parts; fit = and_from (is_plain word) (list_all (fits flags) f.parts) plain f.fit; spelled = ap (λ (ws : List Word). word ∷ ws) f.spelled }

  with_flag : (word : Word) (rest : List Word) → IsFlag flags word → Found flags rest → Found flags (word ∷ rest)
  with_flag word rest g f = record {
    parts = flag g.name ∷ f.parts;
    fit = and_from (list_any (bytes_eq g.name) flags) (list_all (fits flags) f.parts) g.is f.fit;
    spelled = ap₂ (λ (w : Word) (ws : List Word). w ∷ ws) g.spelled f.spelled;
  }

  with_option : (word : Word) (rest : List Word) → IsOption word → FoundValue flags rest → Found flags (word ∷ rest)
  with_option word rest o f = record {
    parts = option o.name f.value ∷ f.found.parts;
    fit = and_from (list_any (bytes_eq o.name) options && is_plain f.value) (list_all (fits flags) f.found.parts)
        (and_from (list_any (bytes_eq o.name) options) (is_plain f.value) o.is f.plain) f.found.fit;
    spelled = ap₂ (λ (w : Word) (ws : List Word). w ∷ ws) o.spelled (f.first ∙ ap (λ (ws : List Word). f.value ∷ ws) f.found.spelled);
  }

  module _ (known : Word → Bool) (kinds : (word : Word) → known word ≡ true → IsKnown flags word) where
    pub found : (words : List Word) → list_all known words ≡ true
        → ((rows : List Row) (p : Option (Text × List Text)) (b : Bool) → total s (at rows p (free b)) words ≡ [] → Found flags words)
        × ((rows : List Row) (name : Word) → list_any (bytes_eq name) options ≡ true → total s (at rows (Some (name, [])) (clap.option name)) words ≡ [] → FoundValue flags words)
    found [] all = ((λ rows p b none. record { parts = []; fit = refl; spelled = refl }), (λ rows name is none. absurd (value_lacks rows name is none)))
    found (word ∷ rest) all =
        let here = and_parts (known word) (list_all known rest) all in
        let more = found rest here.1 in (
          (λ rows p b none. elim (kinds word here.0) [
            | inl plain ↦ with_path word rest plain (more.0 (settled_rows s.rules p rows) (Some (id, word ∷ [])) true
                (both_none (at rows p (free b)) _ word rest _ (path_step rows p b word plain) (path_turn rows p b word plain) none).1)
            | inr named ↦ elim named [
              | inl o ↦ with_option word rest o (more.1 (settled_rows s.rules p rows) o.name o.is (named_none rows p (free b) word rest o none).1)
              | inr f ↦ with_flag word rest f (more.0 (used (flag_rule f.name) [] (settled_rows s.rules p rows)) None false (flag_none rows p (free b) word rest f none).1)
            ]
          ]),
          (λ rows name is none. elim (kinds word here.0) [
            | inl plain ↦ record {
              value = word;
              rest = rest;
              plain = plain;
              first = refl;
              found = more.0 rows (Some (name, word ∷ [])) false
                  (both_none (at rows (Some (name, [])) (clap.option name)) _ word rest _ (value_step rows name word is plain) (value_turn rows name word is plain) none).1;
            }
            | inr named ↦ elim named [
              | inl o ↦ absurd (no_value rows name is (named_none rows (Some (name, [])) (clap.option name) word rest o none).0)
              | inr f ↦ absurd (no_value rows name is (flag_none rows (Some (name, [])) (clap.option name) word rest f none).0)
            ]
          ]),
        )
