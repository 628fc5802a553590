-- Records of other layers or columns that stay have no block in common.
use Rattle.std.proofs.Common.{◌≡◌, ◌⊎◌, inl, inr, ⊎_elim, ℕ, zero, suc, ◌<◌, Bool, true, false, cond, List, [], ◌∷◌, ◌++◌, Option, Some, None, option_map, option_and_then, bytes_eq, refl, sym, ◌∙◌, ap, arith}
use Rattle.overlay_terms.specs.Layers.{Name, Layer}
use Rattle.overlay_terms.specs.Histories.{Finished, tile_at}
use Rattle.overlay_terms.proofs.NameLemmas.{same_name}
use Rattle.layer_book.specs.Layer.{content_named}
use Rattle.store_terms.specs.declared.root.RecordExtent.{RecordExtent}
use Rattle.store_terms.specs.Catalog.{Records, Listed}
use Rattle.store_terms.specs.Places.{all_apart, some_extents, extents_of_records, extents_listed}
use Rattle.commit_plan.specs.Staying.{LiveContent, own_extent, entry_at, tile_extent, records_named, is_near, if_near, holds_content, holds_tile, layer_stays, tile_record_stays, near_ones}
use Rattle.commit_plan.proofs.Placed.{Beside, beside_turned}
use Rattle.commit_plan.proofs.HeldApart.{Among, Before, both_beside, among_front, among_back, before_front, before_back, before_both}

-- where a record of some lies: a layer's own, or that of a column's tile
abbrev pub lies : Option ℕ → Records → Option RecordExtent
lies None r = Some (own_extent r)
lies (Some k) r = tile_extent r k

-- the own record comes first, then those of the tiles by column
abbrev pub Less : Option ℕ → Option ℕ → Type 0
Less None None = ⊥
Less None (Some k) = Unit {0}
Less (Some j) None = ⊥
Less (Some j) (Some k) = j < k

one_extent : (e f : RecordExtent) → Some e ≡ Some f → e ≡ f
one_extent e f is = cc

entry_among : (es : List (Option RecordExtent)) (k : ℕ) (e : RecordExtent) → entry_at es k ≡ Some e
    → Among e (some_extents es)
entry_among [] k e is = absurd (cc)
entry_among (None ∷ es) zero e is = absurd (cc)
entry_among (None ∷ es) (suc k) e is = entry_among es k e is
entry_among (Some g ∷ es) zero e is = inl (sym (one_extent g e is))
entry_among (Some g ∷ es) (suc k) e is = inr (entry_among es k e is)

entry_two : (es : List (Option RecordExtent)) (j k : ℕ) (e f : RecordExtent) → j < k → entry_at es j ≡ Some e
    → entry_at es k ≡ Some f → Before e f (some_extents es)
entry_two [] j k e f less is also = absurd (cc)
entry_two (o ∷ es) j zero e f less is also = absurd (omega (arith, less))
entry_two (None ∷ es) zero (suc k) e f less is also = absurd (cc)
entry_two (None ∷ es) (suc j) (suc k) e f less is also = entry_two es j k e f (omega (arith, less)) is also
entry_two (Some g ∷ es) zero (suc k) e f less is also = inl (sym (one_extent g e is), entry_among es k f also)
entry_two (Some g ∷ es) (suc j) (suc k) e f less is also = inr (entry_two es j k e f (omega (arith, less)) is also)

record_among : (r : Records) (k : Option ℕ) (e : RecordExtent) → lies k r ≡ Some e → Among e (extents_of_records r)
record_among (inl x) None e is = inl (sym (one_extent x e is))
record_among (inl x) (Some k) e is = absurd (cc)
record_among (inr both) None e is = inl (sym (one_extent both.0 e is))
record_among (inr both) (Some k) e is = inr (entry_among both.1 k e is)

record_two : (r : Records) (j k : Option ℕ) (e f : RecordExtent) → Less j k → lies j r ≡ Some e → lies k r ≡ Some f
    → Before e f (extents_of_records r)
record_two r None None e f less is also = absurd less
record_two r (Some j) None e f less is also = absurd less
record_two (inl x) None (Some k) e f less is also = absurd (cc)
record_two (inl x) (Some j) (Some k) e f less is also = absurd (cc)
record_two (inr both) None (Some k) e f less is also = inl (sym (one_extent both.0 e is), entry_among both.1 k f also)
record_two (inr both) (Some j) (Some k) e f less is also = inr (entry_two both.1 j k e f less is also)

one_records : (r s : Records) → Some r ≡ Some s → r ≡ s
one_records r s is = cc

-- ---- in a listing

among_by : (l : Listed) (ls : List Listed) (n : Name) (r : Records) (k : Option ℕ) (e : RecordExtent) (b : Bool)
    → cond b (Some l.records) (records_named ls n) ≡ Some r → lies k r ≡ Some e
    → (records_named ls n ≡ Some r → Among e (extents_listed ls))
    → Among e (extents_of_records l.records ++ extents_listed ls)
among_by l ls n r k e true there is later =
    among_front e (extents_of_records l.records) (extents_listed ls)
    (record_among l.records k e (ap (lies k) (one_records l.records r there) ∙ is))
among_by l ls n r k e false there is later =
    among_back e (extents_of_records l.records) (extents_listed ls) (later there)

listed_among : (ls : List Listed) (n : Name) (r : Records) (k : Option ℕ) (e : RecordExtent)
    → records_named ls n ≡ Some r → lies k r ≡ Some e → Among e (extents_listed ls)
listed_among [] n r k e there is = absurd (cc)
listed_among (l ∷ ls) n r k e there is =
    among_by l ls n r k e (bytes_eq l.name n) there is (λ rest. listed_among ls n r k e rest is)

two_by : (l : Listed) (ls : List Listed) (n : Name) (r : Records) (j k : Option ℕ) (e f : RecordExtent) (b : Bool)
    → cond b (Some l.records) (records_named ls n) ≡ Some r → Less j k → lies j r ≡ Some e → lies k r ≡ Some f
    → (records_named ls n ≡ Some r → Before e f (extents_listed ls))
    → Before e f (extents_of_records l.records ++ extents_listed ls)
two_by l ls n r j k e f true there less is also later =
    let same = one_records l.records r there in
    before_front e f (extents_of_records l.records) (extents_listed ls)
    (record_two l.records j k e f less (ap (lies j) same ∙ is) (ap (lies k) same ∙ also))
two_by l ls n r j k e f false there less is also later =
    before_back e f (extents_of_records l.records) (extents_listed ls) (later there)

listed_two : (ls : List Listed) (n : Name) (r : Records) (j k : Option ℕ) (e f : RecordExtent)
    → records_named ls n ≡ Some r → Less j k → lies j r ≡ Some e → lies k r ≡ Some f → Before e f (extents_listed ls)
listed_two [] n r j k e f there less is also = absurd (cc)
listed_two (l ∷ ls) n r j k e f there less is also =
    two_by l ls n r j k e f (bytes_eq l.name n) there less is also (λ rest. listed_two ls n r j k e f rest less is also)

abbrev EitherWay : RecordExtent → RecordExtent → List RecordExtent → Type 0
EitherWay e f es = Before e f es ⊎ Before f e es

other_by : (l : Listed) (ls : List Listed) (n m : Name) (r s : Records) (j k : Option ℕ) (e f : RecordExtent)
    (a b : Bool) → (n ≡ m → ⊥) → bytes_eq l.name n ≡ a → bytes_eq l.name m ≡ b
    → cond a (Some l.records) (records_named ls n) ≡ Some r → cond b (Some l.records) (records_named ls m) ≡ Some s
    → lies j r ≡ Some e → lies k s ≡ Some f
    → (records_named ls n ≡ Some r → records_named ls m ≡ Some s → EitherWay e f (extents_listed ls))
    → EitherWay e f (extents_of_records l.records ++ extents_listed ls)
other_by l ls n m r s j k e f true true other at also_at there beside is also later =
    absurd (other (sym (same_name l.name n at) ∙ same_name l.name m also_at))
other_by l ls n m r s j k e f true false other at also_at there beside is also later =
    inl (before_both e f (extents_of_records l.records) (extents_listed ls)
    (record_among l.records j e (ap (lies j) (one_records l.records r there) ∙ is))
    (listed_among ls m s k f beside also))
other_by l ls n m r s j k e f false true other at also_at there beside is also later =
    inr (before_both f e (extents_of_records l.records) (extents_listed ls)
    (record_among l.records k f (ap (lies k) (one_records l.records s beside) ∙ also))
    (listed_among ls n r j e there is))
other_by l ls n m r s j k e f false false other at also_at there beside is also later = ⊎_elim
    (λ first. inl (before_back e f (extents_of_records l.records) (extents_listed ls) first))
    (λ second. inr (before_back f e (extents_of_records l.records) (extents_listed ls) second))
    (later there beside)

listed_other : (ls : List Listed) (n m : Name) (r s : Records) (j k : Option ℕ) (e f : RecordExtent)
    → (n ≡ m → ⊥) → records_named ls n ≡ Some r → records_named ls m ≡ Some s → lies j r ≡ Some e → lies k s ≡ Some f
    → EitherWay e f (extents_listed ls)
listed_other [] n m r s j k e f other there beside is also = absurd (cc)
listed_other (l ∷ ls) n m r s j k e f other there beside is also =
    other_by l ls n m r s j k e f (bytes_eq l.name n) (bytes_eq l.name m) other refl refl there beside is also
    (λ rest more. listed_other ls n m r s j k e f other rest more is also)

-- ---- what stays

-- a record of a name and a column lies in a near extent
pub record Sits (ls : List Listed) (n : Name) (k : Option ℕ) (e : RecordExtent) : Type 0 where
  pub near : is_near e ≡ true
  pub records : Records
  pub there : records_named ls n ≡ Some records
  pub lies_so : lies k records ≡ Some e

where_true : (b : Bool) (o : Option RecordExtent) (e : RecordExtent) → cond b o None ≡ Some e → (b ≡ true) × (o ≡ Some e)
where_true true o e is = (refl, is)
where_true false o e is = absurd (cc)

near_is : (o : Option RecordExtent) (e : RecordExtent) → if_near o ≡ Some e → (is_near e ≡ true) × (o ≡ Some e)
near_is None e is = absurd (cc)
near_is (Some f) e is = by_cases (is_near f) refl is where
  by_cases : (b : Bool) → is_near f ≡ b → cond b (Some f) None ≡ Some e → (is_near e ≡ true) × (Some f ≡ Some e)
  by_cases true near is = (ap is_near (sym (one_extent f e is)) ∙ near, is)
  by_cases false near is = absurd (cc)

own_is : (ls : List Listed) (n : Name) (e : RecordExtent) (o : Option Records) → records_named ls n ≡ o
    → is_near e ≡ true → option_map own_extent o ≡ Some e → Sits ls n None e
own_is ls n e None there near is = absurd (cc)
own_is ls n e (Some r) there near is = record { near = near; records = r; there = there; lies_so = is }

tile_is : (ls : List Listed) (n : Name) (k : ℕ) (e : RecordExtent) (o : Option Records) → records_named ls n ≡ o
    → is_near e ≡ true → option_and_then (λ records. tile_extent records k) o ≡ Some e → Sits ls n (Some k) e
tile_is ls n k e None there near is = absurd (cc)
tile_is ls n k e (Some r) there near is = record { near = near; records = r; there = there; lies_so = is }

pub layer_holds : (live : LiveContent) (layer : Layer) (e : RecordExtent) → layer_stays live layer ≡ Some e
    → holds_content (content_named live.layers layer.name) layer.content ≡ true
layer_holds live layer e is = (where_true (holds_content (content_named live.layers layer.name) layer.content) _ e is).0

pub layer_sits : (live : LiveContent) (layer : Layer) (e : RecordExtent) → layer_stays live layer ≡ Some e
    → Sits live.listing layer.name None e
layer_sits live layer e is =
    let o = records_named live.listing layer.name in
    let so = (where_true (holds_content (content_named live.layers layer.name) layer.content) (if_near (option_map own_extent o)) e is).1 in
    let near = near_is (option_map own_extent o) e so in
    own_is live.listing layer.name e o refl near.0 near.1

pub tile_holds : (live : LiveContent) (t : Finished) (e : RecordExtent) → tile_record_stays live t ≡ Some e
    → holds_tile (tile_at live.tiles t.name t.column) t.tile ≡ true
tile_holds live t e is = (where_true (holds_tile (tile_at live.tiles t.name t.column) t.tile) _ e is).0

pub tile_sits : (live : LiveContent) (t : Finished) (e : RecordExtent) → tile_record_stays live t ≡ Some e
    → Sits live.listing t.name (Some t.column) e
tile_sits live t e is =
    let o = records_named live.listing t.name in
    let so = (where_true (holds_tile (tile_at live.tiles t.name t.column) t.tile) (if_near (option_and_then (λ records. tile_extent records t.column) o)) e is).1 in
    let near = near_is (option_and_then (λ records. tile_extent records t.column) o) e so in
    tile_is live.listing t.name t.column e o refl near.0 near.1

pub sits_among : (ls : List Listed) (n : Name) (k : Option ℕ) (e : RecordExtent) → Sits ls n k e
    → Among e (extents_listed ls)
sits_among ls n k e s = listed_among ls n s.records k e s.there s.lies_so

module _ (ls : List Listed) (apart : all_apart (near_ones (extents_listed ls)) ≡ true) where
  pub sit_beside : (n : Name) (j k : Option ℕ) (e f : RecordExtent) → Less j k → Sits ls n j e → Sits ls n k f
      → Beside e f
  sit_beside n j k e f less s t =
      let same : t.records ≡ s.records = one_records t.records s.records (sym t.there ∙ s.there) in
      both_beside e f (extents_listed ls) apart
      (listed_two ls n s.records j k e f s.there less s.lies_so (ap (lies k) (sym same) ∙ t.lies_so)) s.near t.near

  pub sit_elsewhere : (n m : Name) (j k : Option ℕ) (e f : RecordExtent) → (n ≡ m → ⊥) → Sits ls n j e → Sits ls m k f
      → Beside e f
  sit_elsewhere n m j k e f other s t = ⊎_elim
      (λ before. both_beside e f (extents_listed ls) apart before s.near t.near)
      (λ behind. beside_turned f e (both_beside f e (extents_listed ls) apart behind t.near s.near))
      (listed_other ls n m s.records t.records j k e f other s.there t.there s.lies_so t.lies_so)
