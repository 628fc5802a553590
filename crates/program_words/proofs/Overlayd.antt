-- The words of overlayd: what they ask for by the synopsis is what is read of them.
use Rattle.std.proofs.Common.{◌≡◌, ◌≢◌, ◌⊎◌, ◌≤◌, refl, sym, ap, subst, ◌∙◌, inl, inr, List, [], ◌∷◌, ◌++◌, length, Bool, true, false, not, ◌||◌, ◌==◌, Some, None, codes, bytes_eq, fold, arith}
use Rattle.std.proofs.lemmas.Bool.{and_parts, cases_Bool, le-leb, leb-true, or_cases, or_left, true≢false}
use Rattle.std.proofs.lemmas.Option.{none-some}
use Rattle.std.proofs.lemmas.Slice.Eq.{bytes_eq-Decides}
use Rattle.std.specs.List.{filter_map, list_all, list_any}
use Rattle.clap.specs.Faults.{fault_of}
use Rattle.clap.specs.Simple.{Shape, built, matches_of}
use Rattle.clap.specs.Walk.{Row, nothing_held, with_default}
use Rattle.clap.specs.Walk as clap
use Rattle.clap.proofs.FaultLemmas.{leaf_fault}
use Rattle.clap.proofs.OnLiterals.{clap_on_literals}
use Rattle.program_words.proofs.Asked.{HasRules, Picks, asked_faults, fault_of_parts, flags_among, from_asks, from_picked, known_parts, of_one, of_options, opened_by, plain_other, rows_are, rows_of_parts, to_asks, to_picked}
use Rattle.program_words.proofs.Asking.{both_flags, count, has, level_is}
use Rattle.program_words.proofs.Line.{IsKnown, IsLine, IsName, at, flag_rule, found, option_rule, options, rows_at_end, total}
use Rattle.program_words.proofs.RequestLemmas.{asked_if, asked_parts}
use Rattle.program_words.proofs.Rows.{flags_fit, parts_fit}
use Rattle.program_words.specs.CommandLine.{command_line, is_known, request_in, run_request_of}
use Rattle.program_words.specs.Synopsis.{AsksOverlayd, RunRequest, Word, flag_of, flags_of, is_plain}
use Rattle.program_words.specs.declared.keeping.Opening.{Opening}
use Rattle.program_words.specs.declared.keeping.Opening.TheVariants.{Existing, New, ReadOnly}

abbrev top : Shape
top = (built command_line).top

abbrev flags : List Word
flags = codes "create" ∷ []

abbrev id : Word
id = codes "script"

is_line : IsLine top flags id
unfolding clap_on_literals command_line
is_line = record {
  option_names = of_options (λ (name : Word). IsName top.rules name (option_rule name)) (record { long = refl; no_end = refl; found = refl })
      (record { long = refl; no_end = refl; found = refl }) (record { long = refl; no_end = refl; found = refl });
  option_ids = of_options (λ (name : Word). clap.arg_by_id top.rules name ≡ Some (option_rule name)) refl refl refl;
  flag_names = of_one (λ (name : Word). IsName top.rules name (flag_rule name)) (codes "create") (record { long = refl; no_end = refl; found = refl });
  path_index = refl;
  path_id = refl;
  once = refl;
  apart_option = of_options (λ (name : Word). bytes_eq name id ≡ false) refl refl refl;
  apart_flag = of_one (λ (name : Word). bytes_eq name id ≡ false) (codes "create") refl;
  apart = λ name other is of_other.
      of_one (λ (n : Word). bytes_eq n other ≡ false) (codes "create") (of_options (λ (o : Word). bytes_eq (codes "create") o ≡ false) refl refl refl other of_other) name is;
}

has_rules : HasRules top id
unfolding clap_on_literals command_line
has_rules = record {
  harmless = refl;
  checks = λ rows. refl;
  falses = refl;
  options = of_options (λ (name : Word). list_all (λ a. clap.is_empty a.defaults || not (bytes_eq a.id name)) top.rules ≡ true) refl refl refl;
  paths = refl;
}

fault_is : (words : List Word) → fault_of command_line (codes "overlayd" ∷ words) ≡ total top (at [] None clap.idle) words
unfolding command_line
fault_is words = leaf_fault (built command_line) nothing_held words refl ∙ level_is top words has_rules.harmless has_rules.checks

matches_are : (words : List Word) → matches_of command_line (codes "overlayd" ∷ words) ≡ fold with_default (rows_at_end top (at [] None clap.idle) words) top.rules
unfolding command_line
matches_are words = refl

-- ---- words that are known
one_of : (a b c d e : Bool) → (a || b || c || d || e) ≡ true → (a ≡ true) ⊎ ((b ≡ true) ⊎ ((c ≡ true) ⊎ ((d ≡ true) ⊎ (e ≡ true))))
one_of true b c d e h = inl refl
one_of false true c d e h = inr (inl refl)
one_of false false true d e h = inr (inr (inl refl))
one_of false false false true e h = inr (inr (inr (inl refl)))
one_of false false false false e h = inr (inr (inr (inr h)))

pub kinds_of : (some : List Word) → list_any (bytes_eq (codes "create")) some ≡ true → (word : Word) → is_known word ≡ true → IsKnown some word
kinds_of some create_is [] known = inl refl
kinds_of some create_is (b ∷ rest) known =
    let word = b ∷ rest in
    elim (or_cases (not (b == 45)) (bytes_eq word (codes "-") || bytes_eq word (codes "--store") || bytes_eq word (codes "--create") || bytes_eq word (codes "--workers") || bytes_eq word (codes "--max-blocks")) known) [
      | inl other ↦ inl (plain_other b rest other)
      | inr named ↦ elim (one_of (bytes_eq word (codes "-")) (bytes_eq word (codes "--store")) (bytes_eq word (codes "--create")) (bytes_eq word (codes "--workers")) (bytes_eq word (codes "--max-blocks")) named) [
        | inl e ↦ inl (ap is_plain ((bytes_eq-Decides word (codes "-")).0 e))
        | inr store ↦ elim store [
          | inl e ↦ inr (inl (record { name = codes "store"; is = refl; spelled = (bytes_eq-Decides word (codes "--store")).0 e }))
          | inr create ↦ elim create [
            | inl e ↦ inr (inr (record { name = codes "create"; is = create_is; spelled = (bytes_eq-Decides word (codes "--create")).0 e }))
            | inr workers ↦ elim workers [
              | inl e ↦ inr (inl (record { name = codes "workers"; is = refl; spelled = (bytes_eq-Decides word (codes "--workers")).0 e }))
              | inr e ↦ inr (inl (record { name = codes "max-blocks"; is = refl; spelled = (bytes_eq-Decides word (codes "--max-blocks")).0 e }))
            ]
          ]
        ]
      ]
    ]

pub known_plain : (word : Word) → is_plain word ≡ true → is_known word ≡ true
known_plain [] plain = refl
known_plain (b ∷ []) plain =
    elim (cases_Bool (b == 45)) [
      | inl hyphen ↦ simp hyphen
      | inr other ↦ simp other
    ]
known_plain (b ∷ c ∷ rest) plain = or_left (not (b == 45)) _ plain

pub known_option : (name : Word) → list_any (bytes_eq name) options ≡ true → is_known (codes "--" ++ name) ≡ true
known_option = of_options (λ (name : Word). is_known (codes "--" ++ name) ≡ true) refl refl refl

known_flag : (name : Word) → list_any (bytes_eq name) flags ≡ true → is_known (codes "--" ++ name) ≡ true
known_flag = of_one (λ (name : Word). is_known (codes "--" ++ name) ≡ true) (codes "create") refl

-- ---- no word asks for reading alone
no_reads : (names : List Word) → list_all (λ name. list_any (bytes_eq name) flags) names ≡ true → false ≡ has (codes "read-only") names
no_reads [] all = refl
no_reads (name ∷ names) all =
    let here = and_parts (list_any (bytes_eq name) flags) (list_all (λ other. list_any (bytes_eq other) flags) names) all in
    let off : bytes_eq name (codes "read-only") ≡ false = of_one (λ (n : Word). bytes_eq n (codes "read-only") ≡ false) (codes "create") refl name here.0 in
    rw off (no_reads names here.1)

few_reads : (names : List Word) → list_all (λ name. list_any (bytes_eq name) flags) names ≡ true → count (codes "read-only") names ≤ 1
few_reads [] all = omega arith
few_reads (name ∷ names) all =
    let here = and_parts (list_any (bytes_eq name) flags) (list_all (λ other. list_any (bytes_eq other) flags) names) all in
    let off : bytes_eq name (codes "read-only") ≡ false = of_one (λ (n : Word). bytes_eq n (codes "read-only") ≡ false) (codes "create") refl name here.0 in
    rw off (few_reads names here.1)

both_are : (names : List Word) → list_all (λ name. list_any (bytes_eq name) flags) names ≡ true → list_all (λ name. list_any (bytes_eq name) both_flags) names ≡ true
both_are [] all = refl
both_are (name ∷ names) all =
    let here = and_parts (list_any (bytes_eq name) flags) (list_all (λ other. list_any (bytes_eq other) flags) names) all in
    let is : list_any (bytes_eq name) both_flags ≡ true = of_one (λ (n : Word). list_any (bytes_eq n) both_flags ≡ true) (codes "create") refl name here.0 in
    rw is (both_are names here.1)

writes : (o : Opening) (names : List Word) → names ≡ flags_of o → list_all (λ name. list_any (bytes_eq name) flags) names ≡ true → o ≢ ReadOnly
writes o names e all read =
    true≢false (sym all ∙ ap (list_all (λ name. list_any (bytes_eq name) flags)) (e ∙ ap flags_of read))

flags_known : (o : Opening) → o ≢ ReadOnly → list_all (λ name. list_any (bytes_eq name) flags) (flags_of o) ≡ true
flags_known Existing other = refl
flags_known New other = refl
flags_known ReadOnly other = absurd (other refl)

-- ---- both ways
pub to_overlayd : (words : List Word) (r : RunRequest) → run_request_of words ≡ Some r → AsksOverlayd words r
to_overlayd words r e =
    let is = asked_parts (list_all is_known words) (fault_of command_line (codes "overlayd" ∷ words)) (request_in (matches_of command_line (codes "overlayd" ∷ words))) r e in
    let none : total top (at [] None clap.idle) words ≡ [] = sym (fault_is words) ∙ is.1 in
    let f = (found top flags id is_line is_known (kinds_of flags refl) words is.0).0 [] None false none in
    let fault = sym (fault_of_parts top flags id is_line has_rules words f.parts f.spelled f.fit) ∙ none in
    let rows = matches_are words ∙ rows_are top flags id is_line has_rules words f.parts f.spelled f.fit in
    let p = from_picked _ _ _ _ _ _ r (subst (λ (them : List Row). request_in them ≡ Some r) rows is.2) in
    let names = flags_fit flags f.parts f.fit in
    let picks : Picks id (rows_of_parts top flags id is_line has_rules f.parts) false r =
    record { opening = p.opening_is; store = p.store_is; workers = p.workers_is; max_blocks = p.blocks_is; paths = p.paths_is } in
    let opened = opened_by top flags id is_line has_rules f.parts f.fit fault false r refl (both_are (filter_map flag_of f.parts) names) (few_reads (filter_map flag_of f.parts) names)
    (no_reads (filter_map flag_of f.parts) names) picks in
    record {
      asked = to_asks top flags id is_line has_rules f.parts f.fit fault words false r f.spelled opened picks;
      opening = writes r.opening (filter_map flag_of f.parts) opened.0 names;
      scripts = subst (λ (xs : List Word). length xs ≤ 4) p.paths_is (leb-true _ 4 p.limited);
    }

pub from_overlayd : (words : List Word) (r : RunRequest) → AsksOverlayd words r → run_request_of words ≡ Some r
from_overlayd words r a =
    let parts = a.asked.parts in
    let names = flags_among (filter_map flag_of parts) flags r.opening a.asked.opening (flags_known r.opening a.opening) in
    let fit = parts_fit flags parts a.asked.known names in
    let fault = asked_faults top flags id is_line has_rules words r a.asked fit in
    let none = fault_is words ∙ fault_of_parts top flags id is_line has_rules words parts a.asked.spelled fit ∙ fault in
    let known = ap (list_all is_known) a.asked.spelled ∙ known_parts top flags id is_line has_rules is_known known_plain known_option known_flag parts fit in
    let rows = matches_are words ∙ rows_are top flags id is_line has_rules words parts a.asked.spelled fit in
    let seen : false ≡ has (codes "read-only") (flags_of r.opening) = no_reads (flags_of r.opening) (flags_known r.opening a.opening) in
    let picks = from_asks top flags id is_line has_rules parts fit fault words false r a.asked refl refl seen in
    let few = le-leb _ 4 (subst (λ (xs : List Word). length xs ≤ 4) (sym picks.paths) a.scripts) in
    let request = ap request_in rows ∙ to_picked _ _ _ _ _ _ r (record {
      limited = few;
      opening_is = picks.opening;
      store_is = picks.store;
      workers_is = picks.workers;
      blocks_is = picks.max_blocks;
      paths_is = picks.paths;
    }) in
    asked_if (list_all is_known words) (fault_of command_line (codes "overlayd" ∷ words)) (request_in (matches_of command_line (codes "overlayd" ∷ words))) known none ∙ request

-- words of which nothing is read ask for nothing
pub refused_by : (words : List Word) → run_request_of words ≡ None → (request : RunRequest) → AsksOverlayd words request → ⊥
refused_by words none request a = none-some request (sym none ∙ from_overlayd words request a)
