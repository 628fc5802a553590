-- The command that a line asks for, or the batch that lines ask for, if their words are one: each turn asks for one thing.
use Rattle.std.proofs.Common.{◌≡◌, ℕ, inl, inr, false, IsTrue, List, [], ◌∷◌, ◌++◌, Option, Some, None, refl, sym, ap, ◌∙◌, subst}
use Rattle.std.proofs.lemmas.Bool.{true≢false}
use Rattle.std.specs.Option.{option_map}
use Rattle.overlay_terms.specs.Batches.{Batch}
use Rattle.overlay_terms.specs.Commands.{Command}
use Rattle.overlay_terms.specs.Commands as terms
use Rattle.layer_expr.specs.Name.{is_name}
use Rattle.layer_expr.proofs.LawLemmas as expr_laws
use Rattle.wkt_form.proofs.OneMeaning as wkt_laws
use Rattle.script_form.specs.declared.fault.CommandFault.{CommandFault}
use Rattle.script_form.specs.BatchLines.{IsCommandOf, IsNoCommand, AreCommandsOf, IsFirstUnread}
use Rattle.script_form.specs.Turns.{Turn, alone, together, cut_off}
use Rattle.script_form.specs.Requests.{Request, put_text, define_text, remove_name}

-- a name that is one and is none
clash : (name : List ℕ) → IsTrue (is_name name) → is_name name ≡ false → ⊥
clash name is none = true≢false (sym is ∙ none)

-- ==== Lines

-- a line is one command
is_one : (request : Request) (c d : Command) → IsCommandOf request c → IsCommandOf request d → c ≡ d
is_one (put_text name text) c d a b = a.3 ∙ ap (terms.put name) (wkt_laws.spells_one_layer text a.1 b.1 a.2 b.2) ∙ sym b.3
is_one (define_text name text) c d a b = a.3 ∙ ap (terms.define name) (expr_laws.one_tree text a.1 b.1 a.2 b.2) ∙ sym b.3
is_one (remove_name name) c d a b = a.1 ∙ sym b.1
is_one other c d a b = absurd a

are_one : (requests : List Request) (cs ds : Batch) → AreCommandsOf requests cs → AreCommandsOf requests ds → cs ≡ ds
are_one [] [] [] a b = refl
are_one [] [] (d ∷ ds) a b = absurd b
are_one [] (c ∷ cs) ds a b = absurd a
are_one (request ∷ requests) [] ds a b = absurd a
are_one (request ∷ requests) (c ∷ cs) [] a b = absurd b
are_one (request ∷ requests) (c ∷ cs) (d ∷ ds) a b =
    ap (λ (first : Command). first ∷ cs) (is_one request c d a.0 b.0) ∙ ap (λ (more : Batch). d ∷ more) (are_one requests cs ds a.1 b.1)

-- it is never a command and none
one_or_not : (request : Request) (c : Command) (fault : CommandFault) → IsCommandOf request c → IsNoCommand request fault → ⊥
one_or_not (put_text name text) c fault a (inl none) = clash name a.0 none.0
one_or_not (put_text name text) c fault a (inr (named, wrong, by, is)) = wkt_laws.never_both text a.1 wrong a.2 by
one_or_not (define_text name text) c fault a (inl none) = clash name a.0 none.0
one_or_not (define_text name text) c fault a (inr (named, wrong, by, is)) = expr_laws.never_both text a.1 wrong a.2 by
one_or_not (remove_name name) c fault a none = clash name a.0 none.0
one_or_not other c fault a none = absurd a

-- what a request asks for: a command, or none, for a fault
abbrev pub AsksFor : Request → Option Command → Type 0
AsksFor request (Some command) = IsCommandOf request command
AsksFor request None = (fault : CommandFault) × IsNoCommand request fault

-- a request asks for one command, or for none
asks_for_one : (request : Request) (o p : Option Command) → AsksFor request o → AsksFor request p → o ≡ p
asks_for_one request (Some c) (Some d) a b = ap Some (is_one request c d a b)
asks_for_one request (Some c) None a (fault, none) = absurd (one_or_not request c fault a none)
asks_for_one request None (Some d) (fault, none) b = absurd (one_or_not request d fault b none)
asks_for_one request None None a b = refl

some_or_not : (before behind : List Request) (request : Request) (cs : Batch) (fault : CommandFault) → AreCommandsOf (before ++ request ∷ behind) cs → IsNoCommand request fault → ⊥
some_or_not [] behind request [] fault a none = absurd a
some_or_not [] behind request (c ∷ cs) fault a none = one_or_not request c fault a.0 none
some_or_not (first ∷ before) behind request [] fault a none = absurd a
some_or_not (first ∷ before) behind request (c ∷ cs) fault a none = some_or_not before behind request cs fault a.1 none

-- ==== Turns

-- a line that asks for none of its first lines' commands
pub record AreUnread (requests : List Request) : Type 0 where
  pub place : ℕ
  pub fault : CommandFault
  pub first : IsFirstUnread requests place fault

-- what a turn asks for: a batch, where a command alone is a batch of one, or none
abbrev pub TurnAsks : Turn → Option Batch → Type 0
TurnAsks (alone request) (Some commands) = (command : Command) × AsksFor request (Some command) × (commands ≡ command ∷ [])
TurnAsks (alone request) None = AsksFor request None
TurnAsks (together requests) (Some commands) = AreCommandsOf requests commands
TurnAsks (together requests) None = AreUnread requests
TurnAsks (cut_off requests) o = o ≡ None

one_of : Option Command → Option Batch
one_of o = option_map (λ (command : Command). command ∷ []) o

read_or_not : (requests : List Request) (cs : Batch) → AreCommandsOf requests cs → AreUnread requests → ⊥
read_or_not requests cs read none =
    some_or_not none.first.before none.first.after none.first.request cs none.fault (subst (λ (rs : List Request). AreCommandsOf rs cs) none.first.lines read) none.first.why

alone_one : (request : Request) (cs ds : Batch) → TurnAsks (alone request) (Some cs) → TurnAsks (alone request) (Some ds) → Some cs ≡ Some ds
unfolding one_of
alone_one request cs ds (c, a, is) (d, b, it) = ap Some is ∙ ap one_of (asks_for_one request (Some c) (Some d) a b) ∙ ap Some (sym it)

alone_or_not : (request : Request) (cs : Batch) → TurnAsks (alone request) (Some cs) → AsksFor request None → Some cs ≡ None
unfolding one_of
alone_or_not request cs (c, a, is) none = ap Some is ∙ ap one_of (asks_for_one request (Some c) None a none)

-- a turn asks for one batch, or for none
pub turn_asks_one : (turn : Turn) (o p : Option Batch) → TurnAsks turn o → TurnAsks turn p → o ≡ p
turn_asks_one (alone request) (Some cs) (Some ds) a b = alone_one request cs ds a b
turn_asks_one (alone request) (Some cs) None a b = alone_or_not request cs a b
turn_asks_one (alone request) None (Some ds) a b = sym (alone_or_not request ds b a)
turn_asks_one (alone request) None None a b = refl
turn_asks_one (together requests) (Some cs) (Some ds) a b = ap Some (are_one requests cs ds a b)
turn_asks_one (together requests) (Some cs) None a b = absurd (read_or_not requests cs a b)
turn_asks_one (together requests) None (Some ds) a b = absurd (read_or_not requests ds b a)
turn_asks_one (together requests) None None a b = refl
turn_asks_one (cut_off requests) o p a b = a ∙ sym b
