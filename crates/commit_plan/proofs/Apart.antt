-- No two records of a commit have a block in common, whether they stay or are new.
use Rattle.std.proofs.Common.{◌≡◌, ℕ, ◌+◌, ◌^◌, ◌<◌, ◌≤◌, true, List, [], ◌∷◌, ◌++◌, map, Option, Some, None, bytes_eq, refl, sym, ◌∙◌, ap, subst, arith}
use Rattle.std.specs.List.{AllByRecursion, flat_map}
use Rattle.std.specs.Option.{option_map}
use Rattle.std.proofs.lemmas.Bool.{or_left, or_right, ltb-true, false≢true}
use Rattle.extent_map.specs.declared.extent.Extent as runs
use Rattle.extent_map.specs.Extents.{IsUnused}
use Rattle.extent_map.specs.FirstFit.{IsPlanned}
use Rattle.overlay_terms.specs.Layers.{Name, Layer}
use Rattle.overlay_terms.specs.Histories.{Finished}
use Rattle.overlay_terms.specs.Orderly.{is_among, is_orderly_after}
use Rattle.overlay_terms.proofs.NameLemmas.{name_itself, is_among-push}
use Rattle.overlay_terms.proofs.OrderlyLemmas.{orderly_splits}
use Rattle.store_terms.specs.declared.root.RecordExtent.{RecordExtent}
use Rattle.store_terms.specs.Places.{blocks, is_apart_from, all_apart, some_extents, extents_of_records, extents_listed}
use Rattle.root_reading.specs.RootRuns.{AreRunsOf, IsNear, AllNear}
use Rattle.commit_plan.specs.Staying.{LiveContent, is_near, near_ones, AreHeldApart}
use Rattle.commit_plan.specs.Filed.{Filed, extents_of_filed, Record, fresh, stays, extent_of, fresh_of, FiledLayer, a_base, a_definition, listed_of, filed_tiles, filed_of, SpellTiles, SpellLayer, SpellLayers}
use Rattle.commit_plan.proofs.Placed.{IsNew, Beside, beside_turned, AllBeside, all_beside, last_first, planned_new, planned_apart}
use Rattle.commit_plan.proofs.HeldApart.{Among, near_beside}
use Rattle.commit_plan.proofs.Sitting.{Sits, layer_sits, tile_sits, sits_among, sit_beside, sit_elsewhere}

-- ---- the records of layers, in order

abbrev pub present : List (Option Record) → List Record
present [] = []
present (None ∷ ts) = present ts
present (Some r ∷ ts) = r ∷ present ts

abbrev pub records_of : FiledLayer → List Record
records_of (a_base name r) = r ∷ []
records_of (a_definition name r ts) = r ∷ present ts

abbrev pub all_records : List FiledLayer → List Record
all_records [] = []
all_records (l ∷ ls) = records_of l ++ all_records ls

abbrev pub fresh_in : List Record → List Filed
fresh_in [] = []
fresh_in (r ∷ rs) = fresh_of r ++ fresh_in rs

abbrev pub kept_in : List Record → List RecordExtent
kept_in [] = []
kept_in (fresh f ∷ rs) = kept_in rs
kept_in (stays e ∷ rs) = e ∷ kept_in rs

extents_join : (rs qs : List Record) → map extent_of (rs ++ qs) ≡ map extent_of rs ++ map extent_of qs
extents_join [] qs = refl
extents_join (r ∷ rs) qs = ap (λ (l : List RecordExtent). extent_of r ∷ l) (extents_join rs qs)

tile_extents : (ts : List (Option Record)) → map extent_of (present ts) ≡ some_extents (map (option_map extent_of) ts)
tile_extents [] = refl
tile_extents (None ∷ ts) = tile_extents ts
tile_extents (Some r ∷ ts) = ap (λ (l : List RecordExtent). extent_of r ∷ l) (tile_extents ts)

layer_extents : (l : FiledLayer) → map extent_of (records_of l) ≡ extents_of_records (listed_of l).records
layer_extents (a_base name r) = refl
layer_extents (a_definition name r ts) = ap (λ (l : List RecordExtent). extent_of r ∷ l) (tile_extents ts)

pub listed_are : (ls : List FiledLayer) → map extent_of (all_records ls) ≡ extents_listed (map listed_of ls)
listed_are [] = refl
listed_are (l ∷ ls) = extents_join (records_of l) (all_records ls) ∙ (λ i. layer_extents l i ++ listed_are ls i)

fresh_assoc : (xs ys zs : List Filed) → (xs ++ ys) ++ zs ≡ xs ++ (ys ++ zs)
fresh_assoc [] ys zs = refl
fresh_assoc (x ∷ xs) ys zs = ap (λ (l : List Filed). x ∷ l) (fresh_assoc xs ys zs)

fresh_join : (rs qs : List Record) → fresh_in (rs ++ qs) ≡ fresh_in rs ++ fresh_in qs
fresh_join [] qs = refl
fresh_join (r ∷ rs) qs =
    ap (λ (l : List Filed). fresh_of r ++ l) (fresh_join rs qs) ∙ sym (fresh_assoc (fresh_of r) (fresh_in rs) (fresh_in qs))

fresh_tiles : (ts : List (Option Record)) → fresh_in (present ts) ≡ filed_tiles ts
fresh_tiles [] = refl
fresh_tiles (None ∷ ts) = fresh_tiles ts
fresh_tiles (Some r ∷ ts) = ap (λ (l : List Filed). fresh_of r ++ l) (fresh_tiles ts)

fresh_none : (xs : List Filed) → xs ++ [] ≡ xs
fresh_none [] = refl
fresh_none (x ∷ xs) = ap (λ (l : List Filed). x ∷ l) (fresh_none xs)

fresh_layer : (l : FiledLayer) → fresh_in (records_of l) ≡ filed_of l
fresh_layer (a_base name r) = fresh_none (fresh_of r)
fresh_layer (a_definition name r ts) = ap (λ (l : List Filed). fresh_of r ++ l) (fresh_tiles ts)

fresh_are : (ls : List FiledLayer) → fresh_in (all_records ls) ≡ flat_map filed_of ls
fresh_are [] = refl
fresh_are (l ∷ ls) = fresh_join (records_of l) (all_records ls) ∙ (λ i. fresh_layer l i ++ fresh_are ls i)

kept_join : (rs qs : List Record) → kept_in (rs ++ qs) ≡ kept_in rs ++ kept_in qs
kept_join [] qs = refl
kept_join (fresh f ∷ rs) qs = kept_join rs qs
kept_join (stays e ∷ rs) qs = ap (λ (l : List RecordExtent). e ∷ l) (kept_join rs qs)

all_join : (P : RecordExtent → Type 0) (xs ys : List RecordExtent) → AllByRecursion P xs → AllByRecursion P ys
    → AllByRecursion P (xs ++ ys)
all_join P [] ys all also = also
all_join P (x ∷ xs) ys all also = (all.0, all_join P xs ys all.1 also)

all_wider : (P Q : RecordExtent → Type 0) → ((e : RecordExtent) → P e → Q e) → (xs : List RecordExtent)
    → AllByRecursion P xs → AllByRecursion Q xs
all_wider P Q wider [] all = tt
all_wider P Q wider (x ∷ xs) all = (wider x all.0, all_wider P Q wider xs all.1)

beside_join : (xs ys : List RecordExtent) → AllBeside xs → AllBeside ys
    → AllByRecursion (λ x. AllByRecursion (Beside x) ys) xs → AllBeside (xs ++ ys)
beside_join [] ys first second cross = second
beside_join (x ∷ xs) ys first second cross =
    (all_join (Beside x) xs ys first.0 cross.0, beside_join xs ys first.1 second cross.1)

-- ---- new ones among those that stay

module _ (K : RecordExtent → Type 0) (F : Filed → Type 0)
    (cross : (f : Filed) (e : RecordExtent) → F f → K e → Beside f.extent e) where
  kept_beside_all : (e : RecordExtent) → K e → (rs : List Record) → AllByRecursion F (fresh_in rs)
      → AllByRecursion (Beside e) (kept_in rs) → AllByRecursion (Beside e) (map extent_of rs)
  kept_beside_all e k [] fs ks = tt
  kept_beside_all e k (fresh f ∷ rs) fs ks =
      (beside_turned f.extent e (cross f e fs.0 k), kept_beside_all e k rs fs.1 ks)
  kept_beside_all e k (stays g ∷ rs) fs ks = (ks.0, kept_beside_all e k rs fs ks.1)

  fresh_beside_all : (f : Filed) → F f → (rs : List Record)
      → AllByRecursion (Beside f.extent) (extents_of_filed (fresh_in rs)) → AllByRecursion K (kept_in rs)
      → AllByRecursion (Beside f.extent) (map extent_of rs)
  fresh_beside_all f is [] fs ks = tt
  fresh_beside_all f is (fresh g ∷ rs) fs ks = (fs.0, fresh_beside_all f is rs fs.1 ks)
  fresh_beside_all f is (stays e ∷ rs) fs ks = (cross f e is ks.0, fresh_beside_all f is rs fs ks.1)

  mixed : (rs : List Record) → AllBeside (extents_of_filed (fresh_in rs)) → AllBeside (kept_in rs)
      → AllByRecursion F (fresh_in rs) → AllByRecursion K (kept_in rs) → AllBeside (map extent_of rs)
  mixed [] fresh_apart kept_apart fs ks = tt
  mixed (fresh f ∷ rs) fresh_apart kept_apart fs ks =
      (fresh_beside_all f fs.0 rs fresh_apart.0 ks, mixed rs fresh_apart.1 kept_apart fs.1 ks)
  mixed (stays e ∷ rs) fresh_apart kept_apart fs ks =
      (kept_beside_all e ks.0 rs fs kept_apart.0, mixed rs fresh_apart kept_apart.1 fs ks.1)

-- ---- those that stay

no_name : (n : Name) (known : List Name) (layers : List Layer) → is_orderly_after known layers ≡ true
    → is_among known n ≡ true → AllByRecursion (λ l. n ≡ l.name → ⊥) layers
no_name n known [] orderly among = tt
no_name n known (l ∷ ls) orderly among =
    let splits = orderly_splits known l ls orderly in (
      (λ same. false≢true (sym splits.first.new_name ∙ ap (is_among known) (sym same) ∙ among)),
      no_name n (known ++ l.name ∷ []) ls splits.rest
          (is_among-push known l.name n ∙ or_left (is_among known n) (bytes_eq l.name n) among),
    )

module _ (live : LiveContent) (apart : all_apart (near_ones (extents_listed live.listing)) ≡ true) where
  -- tiles of a name, from a column on
  abbrev SitFrom : Name → ℕ → RecordExtent → Type 0
  SitFrom n k e = (j : ℕ) × (k ≤ j) × Sits live.listing n (Some j) e

  abbrev SitOf : Name → RecordExtent → Type 0
  SitOf n e = (k : Option ℕ) × Sits live.listing n k e

  abbrev SitBeside : Name → RecordExtent → Type 0
  SitBeside n e = (m : Name) × (n ≡ m → ⊥) × SitOf m e

  sit_later : (n : Name) (k : ℕ) (es : List RecordExtent) → AllByRecursion (SitFrom n (k + 1)) es
      → AllByRecursion (SitFrom n k) es
  sit_later n k es all =
      all_wider (SitFrom n (k + 1)) (SitFrom n k) (λ e s. (s.0, omega (arith, s.1), s.2)) es all

  tiles_sit : (n : Name) (k : ℕ) (ts : List (Option Record)) (tiles : List Finished) → SpellTiles live n k ts tiles
      → AllByRecursion (SitFrom n k) (kept_in (present ts))
  tiles_sit n k [] tiles spelled = tt
  tiles_sit n k (None ∷ ts) tiles spelled =
      sit_later n k (kept_in (present ts)) (tiles_sit n (k + 1) ts tiles spelled)
  tiles_sit n k (Some (fresh f) ∷ ts) tiles spelled =
      sit_later n k (kept_in (present ts)) (tiles_sit n (k + 1) ts spelled.1 spelled.4)
  tiles_sit n k (Some (stays e) ∷ ts) tiles spelled = (
    (k, omega arith, tile_sits live (record { name = n; column = k; tile = spelled.0 }) e spelled.3),
    sit_later n k (kept_in (present ts)) (tiles_sit n (k + 1) ts spelled.1 spelled.4),
  )

  tiles_beside : (n : Name) (k : ℕ) (ts : List (Option Record)) (tiles : List Finished) → SpellTiles live n k ts tiles
      → AllBeside (kept_in (present ts))
  tiles_beside n k [] tiles spelled = tt
  tiles_beside n k (None ∷ ts) tiles spelled = tiles_beside n (k + 1) ts tiles spelled
  tiles_beside n k (Some (fresh f) ∷ ts) tiles spelled = tiles_beside n (k + 1) ts spelled.1 spelled.4
  tiles_beside n k (Some (stays e) ∷ ts) tiles spelled = (
    all_wider (SitFrom n (k + 1)) (Beside e)
        (λ f s. sit_beside live.listing apart n (Some k) (Some s.0) e f (omega (arith, s.1))
        (tile_sits live (record { name = n; column = k; tile = spelled.0 }) e spelled.3) s.2)
        (kept_in (present ts)) (tiles_sit n (k + 1) ts spelled.1 spelled.4),
    tiles_beside n (k + 1) ts spelled.1 spelled.4,
  )

  abbrev name_of : FiledLayer → Name
  name_of (a_base name r) = name
  name_of (a_definition name r ts) = name

  tiles_of_name : (n : Name) (ts : List (Option Record)) (tiles : List Finished) → SpellTiles live n 0 ts tiles
      → AllByRecursion (SitOf n) (kept_in (present ts))
  tiles_of_name n ts tiles spelled =
      all_wider (SitFrom n 0) (SitOf n) (λ e s. (Some s.0, s.2)) (kept_in (present ts)) (tiles_sit n 0 ts tiles spelled)

  layer_sit : (l : FiledLayer) (layer : Layer) (own : List Finished) → SpellLayer live l layer own
      → AllByRecursion (SitOf (name_of l)) (kept_in (records_of l))
  layer_sit (a_base name (fresh f)) layer own spelled = tt
  layer_sit (a_base name (stays e)) layer own spelled = ((None, layer_sits live _ e spelled.3), tt)
  layer_sit (a_definition name (fresh f) ts) layer own spelled = tiles_of_name name ts own spelled.3
  layer_sit (a_definition name (stays e) ts) layer own spelled =
      ((None, layer_sits live _ e spelled.2), tiles_of_name name ts own spelled.3)

  layer_beside : (l : FiledLayer) (layer : Layer) (own : List Finished) → SpellLayer live l layer own
      → AllBeside (kept_in (records_of l))
  layer_beside (a_base name (fresh f)) layer own spelled = tt
  layer_beside (a_base name (stays e)) layer own spelled = (tt, tt)
  layer_beside (a_definition name (fresh f) ts) layer own spelled = tiles_beside name 0 ts own spelled.3
  layer_beside (a_definition name (stays e) ts) layer own spelled = (
    all_wider (SitFrom name 0) (Beside e)
        (λ f s. sit_beside live.listing apart name None (Some s.0) e f tt (layer_sits live _ e spelled.2) s.2)
        (kept_in (present ts)) (tiles_sit name 0 ts own spelled.3),
    tiles_beside name 0 ts own spelled.3,
  )

  name_is : (l : FiledLayer) (layer : Layer) (own : List Finished) → SpellLayer live l layer own → layer.name ≡ name_of l
  name_is (a_base name r) layer own spelled = ap (λ (x : Layer). x.name) spelled.1
  name_is (a_definition name r ts) layer own spelled = ap (λ (x : Layer). x.name) spelled.1

  layers_sit : (n : Name) (ls : List FiledLayer) (layers : List Layer) (tiles : List Finished)
      → SpellLayers live ls layers tiles → AllByRecursion (λ l. n ≡ l.name → ⊥) layers
      → AllByRecursion (SitBeside n) (kept_in (all_records ls))
  layers_sit n [] layers tiles spelled other = tt
  layers_sit n (l ∷ ls) layers tiles spelled other =
      let others = subst (λ (x : List Layer). AllByRecursion (λ l. n ≡ l.name → ⊥) x) spelled.4 other in
      let name = name_is l spelled.0 spelled.2 spelled.6 in
      subst (AllByRecursion (SitBeside n)) (sym (kept_join (records_of l) (all_records ls)))
      (all_join (SitBeside n) (kept_in (records_of l)) (kept_in (all_records ls))
      (all_wider (SitOf (name_of l)) (SitBeside n) (λ e s. (name_of l, (λ same. others.0 (same ∙ sym name)), s))
      (kept_in (records_of l)) (layer_sit l spelled.0 spelled.2 spelled.6))
      (layers_sit n ls spelled.1 spelled.3 spelled.7 others.1))

  cross_names : (n : Name) (xs ys : List RecordExtent) → AllByRecursion (SitOf n) xs → AllByRecursion (SitBeside n) ys
      → AllByRecursion (λ x. AllByRecursion (Beside x) ys) xs
  cross_names n [] ys first second = tt
  cross_names n (x ∷ xs) ys first second = (
    all_wider (SitBeside n) (Beside x)
        (λ y s. sit_elsewhere live.listing apart n s.0 first.0.0 s.2.0 x y s.1 first.0.1 s.2.1) ys second,
    cross_names n xs ys first.1 second,
  )

  layers_beside : (known : List Name) (ls : List FiledLayer) (layers : List Layer) (tiles : List Finished)
      → SpellLayers live ls layers tiles → is_orderly_after known layers ≡ true → AllBeside (kept_in (all_records ls))
  layers_beside known [] layers tiles spelled orderly = tt
  layers_beside known (l ∷ ls) layers tiles spelled orderly =
      let here = subst (λ (x : List Layer). is_orderly_after known x ≡ true) spelled.4 orderly in
      let splits = orderly_splits known spelled.0 spelled.1 here in
      let n = spelled.0.name in
      let name = name_is l spelled.0 spelled.2 spelled.6 in
      let among : is_among (known ++ n ∷ []) n ≡ true =
      is_among-push known n n ∙ or_right (is_among known n) (bytes_eq n n) (name_itself n) in
      let other = subst (λ (m : Name). AllByRecursion (λ l. m ≡ l.name → ⊥) spelled.1) name
      (no_name n (known ++ n ∷ []) spelled.1 splits.rest among) in
      subst AllBeside (sym (kept_join (records_of l) (all_records ls)))
      (beside_join (kept_in (records_of l)) (kept_in (all_records ls))
      (layer_beside l spelled.0 spelled.2 spelled.6)
      (layers_beside (known ++ n ∷ []) ls spelled.1 spelled.3 spelled.7 splits.rest)
      (cross_names (name_of l) (kept_in (records_of l)) (kept_in (all_records ls))
      (layer_sit l spelled.0 spelled.2 spelled.6) (layers_sit (name_of l) ls spelled.1 spelled.3 spelled.7 other)))

  abbrev pub IsKept : RecordExtent → Type 0
  IsKept e = (is_near e ≡ true) × Among e (extents_listed live.listing)

  sit_kept : (n : Name) (e : RecordExtent) → SitOf n e → IsKept e
  sit_kept n e s = (s.1.near, sits_among live.listing n s.0 e s.1)

  pub layers_kept : (ls : List FiledLayer) (layers : List Layer) (tiles : List Finished)
      → SpellLayers live ls layers tiles → AllByRecursion IsKept (kept_in (all_records ls))
  layers_kept [] layers tiles spelled = tt
  layers_kept (l ∷ ls) layers tiles spelled =
      subst (AllByRecursion IsKept) (sym (kept_join (records_of l) (all_records ls)))
      (all_join IsKept (kept_in (records_of l)) (kept_in (all_records ls))
      (all_wider (SitOf (name_of l)) IsKept (sit_kept (name_of l)) (kept_in (records_of l))
      (layer_sit l spelled.0 spelled.2 spelled.6))
      (layers_kept ls spelled.1 spelled.3 spelled.7))

-- ---- all of them

abbrev IsFree : LiveContent → Filed → Type 0
IsFree live f = is_apart_from f.extent (near_ones (extents_listed live.listing)) ≡ true

all_free : (live : LiveContent) (given : List runs.Extent) (fs : List Filed) (rs : List runs.Extent)
    → AreHeldApart (extents_listed live.listing) given → AllByRecursion (IsNew given) rs
    → AreRunsOf (extents_of_filed fs) rs → AllByRecursion (IsFree live) fs
all_free live given [] rs held new are = tt
all_free live given (f ∷ fs) [] held new are = absurd are
all_free live given (f ∷ fs) (r ∷ rs) held new are = (
  held.free f.extent
      (subst (λ (n : ℕ). IsUnused given n (blocks f.extent.size)) are.0 (subst (IsUnused given r.block) are.1 new.0.free)),
  all_free live given fs rs held new.1 are.2,
)

-- the records of a draft, those that stay among them, and the catalog
pub records_apart : (live : LiveContent) (given : List runs.Extent) (limit : ℕ) (sizes : List ℕ) (ls : List FiledLayer)
    (catalog : Filed) (layers : List Layer) (tiles : List Finished) (rs : List runs.Extent)
    → AreHeldApart (extents_listed live.listing) given → SpellLayers live ls layers tiles
    → is_orderly_after [] layers ≡ true → IsPlanned given limit sizes rs
    → AreRunsOf (extents_of_filed (flat_map filed_of ls ++ catalog ∷ [])) rs
    → all_apart (catalog.extent ∷ extents_listed (map listed_of ls)) ≡ true
records_apart live given limit sizes ls catalog layers tiles rs held spelled orderly planned are =
    let all : List Record = all_records ls ++ fresh catalog ∷ [] in
    let new : fresh_in all ≡ flat_map filed_of ls ++ catalog ∷ [] =
    fresh_join (all_records ls) (fresh catalog ∷ []) ∙ ap (λ (l : List Filed). l ++ catalog ∷ []) (fresh_are ls) in
    let kept : kept_in all ≡ kept_in (all_records ls) = kept_join (all_records ls) (fresh catalog ∷ []) ∙ none _ in
    let listed : map extent_of all ≡ extents_listed (map listed_of ls) ++ catalog.extent ∷ [] =
    extents_join (all_records ls) (fresh catalog ∷ [])
    ∙ ap (λ (l : List RecordExtent). l ++ catalog.extent ∷ []) (listed_are ls) in
    let both = mixed (IsKept live held.apart) (IsFree live)
    (λ f e free is. near_beside f.extent e (extents_listed live.listing) free is.1 is.0) all
    (subst (λ (l : List Filed). AllBeside (extents_of_filed l)) (sym new)
    (all_beside (extents_of_filed (flat_map filed_of ls ++ catalog ∷ [])) rs
    (planned_apart given limit sizes rs planned) are))
    (subst AllBeside (sym kept) (layers_beside live held.apart [] ls layers tiles spelled orderly))
    (subst (AllByRecursion (IsFree live)) (sym new)
    (all_free live given (flat_map filed_of ls ++ catalog ∷ []) rs held (planned_new given limit sizes rs planned) are))
    (subst (AllByRecursion (IsKept live held.apart)) (sym kept) (layers_kept live held.apart ls layers tiles spelled)) in
    last_first (extents_listed (map listed_of ls)) catalog.extent (subst AllBeside listed both)
  where
    none : (es : List RecordExtent) → es ++ [] ≡ es
    none [] = refl
    none (e ∷ es) = ap (λ (l : List RecordExtent). e ∷ l) (none es)

-- ---- their ends are numbers of 64 bits

planned_near : (given : List runs.Extent) (limit : ℕ) (sizes : List ℕ) (rs : List runs.Extent) → limit < 2 ^ 32
    → IsPlanned given limit sizes rs → AllByRecursion (λ r. r.block + r.blocks < 2 ^ 64) rs
planned_near given limit [] [] low planned = tt
planned_near given limit [] (r ∷ rs) low planned = absurd planned
planned_near given limit (n ∷ sizes) [] low planned = absurd planned
planned_near given limit (n ∷ sizes) (r ∷ rs) low planned = (
  (let end : r.block + r.blocks ≤ limit =
      subst (λ (m : ℕ). r.block + m ≤ limit) (sym planned.0) planned.1.below in omega (arith, end, low)),
  planned_near (r ∷ given) limit sizes rs low planned.2,
)

fresh_near : (fs : List Filed) (rs : List runs.Extent) → AreRunsOf (extents_of_filed fs) rs
    → AllByRecursion (λ r. r.block + r.blocks < 2 ^ 64) rs → AllByRecursion (λ f. IsNear f.extent) fs
fresh_near [] rs are near = tt
fresh_near (f ∷ fs) [] are near = absurd are
fresh_near (f ∷ fs) (r ∷ rs) are near = (
  subst (λ (n : ℕ). f.extent.block + n < 2 ^ 64) are.1 (subst (λ (n : ℕ). n + r.blocks < 2 ^ 64) are.0 near.0),
  fresh_near fs rs are.2 near.1,
)

both_near : (rs : List Record) → AllByRecursion (λ f. IsNear f.extent) (fresh_in rs)
    → AllByRecursion (λ e. is_near e ≡ true) (kept_in rs) → AllNear (map extent_of rs)
both_near [] new kept = tt
both_near (fresh f ∷ rs) new kept = (new.0, both_near rs new.1 kept)
both_near (stays e ∷ rs) new kept = (ltb-true (e.block + blocks e.size) (2 ^ 64) kept.0, both_near rs new kept.1)

near_last : (es : List RecordExtent) (c : RecordExtent) → AllNear (es ++ c ∷ []) → AllNear (c ∷ es)
near_last [] c near = near
near_last (e ∷ es) c near = let rest = near_last es c near.1 in (rest.0, (near.0, rest.1))

pub records_near : (live : LiveContent) (given : List runs.Extent) (limit : ℕ) (sizes : List ℕ) (ls : List FiledLayer)
    (catalog : Filed) (layers : List Layer) (tiles : List Finished) (rs : List runs.Extent)
    → AreHeldApart (extents_listed live.listing) given → SpellLayers live ls layers tiles → limit < 2 ^ 32
    → IsPlanned given limit sizes rs
    → AreRunsOf (extents_of_filed (flat_map filed_of ls ++ catalog ∷ [])) rs
    → AllNear (catalog.extent ∷ extents_listed (map listed_of ls))
records_near live given limit sizes ls catalog layers tiles rs held spelled low planned are =
    let all : List Record = all_records ls ++ fresh catalog ∷ [] in
    let new : fresh_in all ≡ flat_map filed_of ls ++ catalog ∷ [] =
    fresh_join (all_records ls) (fresh catalog ∷ []) ∙ ap (λ (l : List Filed). l ++ catalog ∷ []) (fresh_are ls) in
    let kept : kept_in all ≡ kept_in (all_records ls) = kept_join (all_records ls) (fresh catalog ∷ []) ∙ none _ in
    let listed : map extent_of all ≡ extents_listed (map listed_of ls) ++ catalog.extent ∷ [] =
    extents_join (all_records ls) (fresh catalog ∷ [])
    ∙ ap (λ (l : List RecordExtent). l ++ catalog.extent ∷ []) (listed_are ls) in
    near_last (extents_listed (map listed_of ls)) catalog.extent
    (subst AllNear listed
    (both_near all
    (subst (AllByRecursion (λ (f : Filed). IsNear f.extent)) (sym new)
    (fresh_near (flat_map filed_of ls ++ catalog ∷ []) rs are (planned_near given limit sizes rs low planned)))
    (subst (AllByRecursion (λ (e : RecordExtent). is_near e ≡ true)) (sym kept)
    (all_wider (IsKept live held.apart) (λ e. is_near e ≡ true) (λ e is. is.0) (kept_in (all_records ls))
    (layers_kept live held.apart ls layers tiles spelled)))))
  where
    none : (es : List RecordExtent) → es ++ [] ≡ es
    none [] = refl
    none (e ∷ es) = ap (λ (l : List RecordExtent). e ∷ l) (none es)
