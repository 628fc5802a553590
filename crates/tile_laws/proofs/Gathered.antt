-- Of the elements of a list, those that have a property, in order and each once.
use Rattle.std.specs.Prelude.{◌≡◌, zero, suc, ◌⊎◌, Bool, IsTrue, List, [], ◌∷◌, All, Any, Contains, AllPairs, get_or}
use Rattle.std.proofs.Common.{inl, inr, refl, sym, subst, arith}
use Rattle.std.proofs.lemmas.List.Elements.{All-nil, All-cons, All-head, All-tail, All-weaker}
use Rattle.std.proofs.lemmas.List.Kept.{AllPairs-cons}
use Rattle.overlay_terms.proofs.Lists.{Contains-cons_cases, none_in_empty}
use Rattle.overlay_terms.proofs.Pairs.{pairs_head, pairs_rest}
use Rattle.tile_laws.proofs.AlikeLists.{Ranks, any_cases, none_of_any}

-- elements that are compared: one comes before the other, or both are alike
pub data Compared {X : Type 0} (same : X → X → Bool) (less : X → X → Type 0) (x y : X) : Type 0 where
  lower : less x y → Compared same less x y
  level : IsTrue (same x y) → Compared same less x y
  higher : less y x → Compared same less x y

-- whether an element has a property
pub data Decided {X : Type 0} (Q : X → Type 0) (x : X) : Type 0 where
  holds : Q x → Decided Q x
  fails : (Q x → ⊥) → Decided Q x

module _ {X : Type 0} (P : X → Type 0) (same : X → X → Bool) (less : X → X → Type 0) (ranks : Ranks P same less) (compared : (x y : X) → P x → P y → Compared same less x y) where
  -- a list with one element more
  record Inserted (x : X) (ys : List X) : Type 1 where
    pub list : List X
    pub all : (Q : X → Type 0) → Q x → All Q ys → All Q list
    pub ordered : AllPairs less list
    pub here : Any (λ z. IsTrue (same x z)) list
    pub kept : (Q : X → Type 0) → Any Q ys → Any Q list

  -- a property of the first, or of one of the rest
  any_first : (Q : X → Type 0) (x : X) (xs : List X) → Q x → Any Q (x ∷ xs)
  any_first Q x xs h = (zero, x, omega arith, refl, h)

  any_rest : (Q : X → Type 0) (x : X) (xs : List X) → Any Q xs → Any Q (x ∷ xs)
  any_rest Q x xs (k, z, l, e, h) = (suc k, z, omega (arith, l), e, h)

  module _ (itself : (x : X) → P x → IsTrue (same x x)) where
    -- by how the element compares with the first
    insert_before : (x : X) → P x → (y : X) (ys : List X) → P y → All P ys → AllPairs less (y ∷ ys) → Inserted x ys → Compared same less x y → Inserted x (y ∷ ys)
    insert_before x hx y ys hy all ordered into (lower l) = record {
      list = x ∷ y ∷ ys;
      all = λ Q h hs. All-cons Q x (y ∷ ys) h hs;
      ordered = AllPairs-cons less x (y ∷ ys) (All-cons (less x) y ys l (λ j d m. ranks.through x y (get_or ys j d) hx hy (all j d m) l (pairs_head less y ys ordered j d m))) ordered;
      here = any_first (λ z. IsTrue (same x z)) x (y ∷ ys) (itself x hx);
      kept = λ Q a. any_rest Q x (y ∷ ys) a;
    }
    insert_before x hx y ys hy all ordered into (level e) = record {
      list = y ∷ ys;
      all = λ Q h hs. hs;
      ordered = ordered;
      here = any_first (λ z. IsTrue (same x z)) y ys e;
      kept = λ Q a. a;
    }
    insert_before x hx y ys hy all ordered into (higher l) = record {
      list = y ∷ into.list;
      all = λ Q h hs. All-cons Q y into.list (All-head Q y ys hs) (into.all Q h (All-tail Q y ys hs));
      ordered = AllPairs-cons less y into.list (into.all (less y) l (pairs_head less y ys ordered)) into.ordered;
      here = any_rest (λ z. IsTrue (same x z)) y into.list into.here;
      kept = λ Q a. by Q (any_cases Q y ys a);
    }
      where
        by : (Q : X → Type 0) → Q y ⊎ Any Q ys → Any Q (y ∷ into.list)
        by Q (inl h) = any_first Q y into.list h
        by Q (inr a) = any_rest Q y into.list (into.kept Q a)

    -- into an ordered list
    insert : (x : X) → P x → (ys : List X) → All P ys → AllPairs less ys → Inserted x ys
    insert x hx [] all ordered = record {
      list = x ∷ [];
      all = λ Q h hs. All-cons Q x [] h hs;
      ordered = AllPairs-cons less x [] (All-nil (less x)) ordered;
      here = any_first (λ z. IsTrue (same x z)) x [] (itself x hx);
      kept = λ Q a. absurd (none_of_any Q a);
    }
    insert x hx (y ∷ ys) all ordered =
        insert_before x hx y ys (All-head P y ys all) (All-tail P y ys all) ordered
        (insert x hx ys (All-tail P y ys all) (pairs_rest less y ys ordered)) (compared x y hx (All-head P y ys all))

    module _ (Q : X → Type 0) (placed : (x : X) → Q x → P x) where
      -- those of a list that have the property
      pub record Gathered (xs : List X) : Type 0 where
        pub list : List X
        pub ordered : AllPairs less list
        pub sound : All Q list
        pub complete : (x : X) → Contains xs x → Q x → Any (λ y. IsTrue (same x y)) list

      -- one element more
      gather_one : (x : X) (xs : List X) → Decided Q x → Gathered xs → Gathered (x ∷ xs)
      gather_one x xs (holds h) rest =
          let into : Inserted x rest.list = insert x (placed x h) rest.list (All-weaker Q P placed rest.list rest.sound) rest.ordered in
          record {
            list = into.list;
            ordered = into.ordered;
            sound = into.all Q h rest.sound;
            complete = λ z m q. by z q (Contains-cons_cases x xs z m);
          }
        where
          by : (z : X) → Q z → (x ≡ z) ⊎ Contains xs z → Any (λ y. IsTrue (same z y)) (insert x (placed x h) rest.list (All-weaker Q P placed rest.list rest.sound) rest.ordered).list
          by z q (inl e) =
              let into : Inserted x rest.list = insert x (placed x h) rest.list (All-weaker Q P placed rest.list rest.sound) rest.ordered in
              let Like : X → Type 0 = λ u. Any (λ y. IsTrue (same u y)) into.list in
              subst Like e into.here
          by z q (inr m) = (insert x (placed x h) rest.list (All-weaker Q P placed rest.list rest.sound) rest.ordered).kept (λ y. IsTrue (same z y)) (rest.complete z m q)
      gather_one x xs (fails n) rest = record {
        list = rest.list;
        ordered = rest.ordered;
        sound = rest.sound;
        complete = λ z m q. by z q (Contains-cons_cases x xs z m);
      }
        where
          by : (z : X) → Q z → (x ≡ z) ⊎ Contains xs z → Any (λ y. IsTrue (same z y)) rest.list
          by z q (inl e) = absurd (n (subst Q (sym e) q))
          by z q (inr m) = rest.complete z m q

      -- through the whole list
      pub gather : ((x : X) → Decided Q x) → (xs : List X) → Gathered xs
      gather decide [] = record { list = []; ordered = λ i j d l m. absurd (omega (arith, m)); sound = All-nil Q; complete = λ x m q. absurd (none_in_empty x m) }
      gather decide (x ∷ xs) = gather_one x xs (decide x) (gather decide xs)
