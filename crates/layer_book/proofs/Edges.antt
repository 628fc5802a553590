-- A layer's answer on edges is whether a segment in reach holds the point.
use Rattle.std.proofs.Common.{◌≡◌, ℕ, ◌+◌, Bool, true, false, cond, ◌||◌, ◌&&◌, List, [], ◌∷◌, ◌++◌, map, filter, fold, filter_map, flat_map, Some, refl, ap, sym, ◌∙◌, subst, append_assoc, bytes_eq, if◌then◌else◌}
use Rattle.std.specs.List.{list_any, enumerate_from}
use Rattle.std.proofs.lemmas.Bool.{or_parts}
use Rattle.std.proofs.lemmas.List.Folds.{list_any-append}
use Rattle.overlay_terms.specs.Plane.{WholePoint, Point, segments_of, is_on}
use Rattle.overlay_terms.specs.Trees.{leaves}
use Rattle.overlay_terms.specs.Laws.{is_on_any}
use Rattle.overlay_terms.specs.Layers.{Name, Content, base, derived, Layer, Marked, named, content_reach, reaches, base_of, marked_segments, segments_in_reach, value_of, answer_at, edge, inside, outside}
use Rattle.overlay_terms.specs.Commands.{stands}
use Rattle.overlay_terms.specs.Orderly.{is_orderly_after}
use Rattle.overlay_terms.proofs.ReachLemmas.{any-flat_map}
use Rattle.overlay_terms.proofs.NameLemmas.{or_false}
use Rattle.layer_book.specs.Layer.{content_named}
use Rattle.layer_book.specs.Question.{IsInside, IsEdge, content_edge, answers}
use Rattle.layer_book.proofs.Names.{own_name}
use Rattle.layer_book.proofs.Order.{fresh}
use Rattle.layer_book.proofs.Lookups.{passes, named_passes}

-- whether a layer of rings has a segment that holds the point
abbrev base_edge : Point → Content → Bool
base_edge p (base rings) = is_on_any (segments_of rings) p
base_edge p (derived expression) = false

any-map : {X Y : Type 0} (f : Y → Bool) (g : X → Y) (xs : List X) → list_any f (map g xs) ≡ list_any (λ x. f (g x)) xs
any-map f g [] = refl
any-map f g (x ∷ xs) = ap (λ b. f (g x) || b) (any-map f g xs)

pub any-filter : {X : Type 0} (f t : X → Bool) (xs : List X) → list_any f (filter t xs) ≡ list_any (λ x. t x && f x) xs
any-filter f t [] = refl
any-filter f t (x ∷ xs) = split (t x) (any-filter f t xs) where
  split : (b : Bool) → list_any f (filter t xs) ≡ list_any (λ x. t x && f x) xs → list_any f (cond b (x ∷ filter t xs) (filter t xs)) ≡ ((b && f x) || list_any (λ x. t x && f x) xs)
  split true e = ap (λ b. f x || b) e
  split false e = e

or_swap : (a b c d : Bool) → ((a || b) || (c || d)) ≡ ((a || c) || (b || d))
or_swap true b c d = refl
or_swap false true true d = refl
or_swap false true false d = refl
or_swap false false true d = refl
or_swap false false false d = refl

any-or : {X : Type 0} (f g : X → Bool) (xs : List X) → list_any (λ x. f x || g x) xs ≡ (list_any f xs || list_any g xs)
any-or f g [] = refl
any-or f g (x ∷ xs) = ap (λ b. (f x || g x) || b) (any-or f g xs) ∙ or_swap (f x) (g x) (list_any f xs) (list_any g xs)

any-none : {X : Type 0} (xs : List X) → list_any (λ (x : X). false) xs ≡ false
any-none [] = refl
any-none (x ∷ xs) = any-none xs

-- some x and some y may be sought in either order
any-turned : {X Y : Type 0} (h : Y → X → Bool) (xs : List X) (ys : List Y) → list_any (λ x. list_any (λ y. h y x) ys) xs ≡ list_any (λ y. list_any (h y) xs) ys
any-turned h xs [] = any-none xs
any-turned h xs (y ∷ ys) = any-or (h y) (λ x. list_any (λ y. h y x) ys) xs ∙ ap (λ b. list_any (h y) xs || b) (any-turned h xs ys)

pub any-and : {X : Type 0} (f : X → Bool) (b : Bool) (xs : List X) → list_any (λ x. f x && b) xs ≡ (list_any f xs && b)
any-and f b [] = refl
any-and f b (x ∷ xs) = ap (λ c. (f x && b) || c) (any-and f b xs) ∙ both (f x) (list_any f xs) b where
  both : (a c b : Bool) → ((a && b) || (c && b)) ≡ ((a || c) && b)
  both true true true = refl
  both true false true = refl
  both true true false = refl
  both true false false = refl
  both false c b = refl

marked_any : (p : Point) (k : ℕ) (bases : List (List (List WholePoint))) → list_any (λ (m : Marked). is_on m.segment p)
    (flat_map (λ numbered. map (λ s. record { layer = numbered.0; segment = s }) (segments_of numbered.1)) (enumerate_from k bases)) ≡ list_any
    (λ rings. is_on_any (segments_of rings) p) bases
marked_any p k [] = refl
marked_any p k (rings ∷ bases) =
    list_any-append (λ (m : Marked). is_on m.segment p) (map (λ s. record { layer = k; segment = s }) (segments_of rings)) _
    ∙ ap (λ b. b || list_any (λ (m : Marked). is_on m.segment p) (flat_map
    (λ numbered. map (λ s. record { layer = numbered.0; segment = s }) (segments_of numbered.1)) (enumerate_from (k + 1) bases)))
    (any-map (λ (m : Marked). is_on m.segment p) (λ s. record { layer = k; segment = s }) (segments_of rings))
    ∙ ap (λ b. is_on_any (segments_of rings) p || b) (marked_any p (k + 1) bases)

bases_any : (p : Point) (layers : List Layer) → list_any (λ rings. is_on_any (segments_of rings) p) (map (λ b. b.1) (filter_map base_of layers)) ≡ list_any (λ layer. base_edge p layer.content) layers
bases_any p [] = refl
bases_any p (layer ∷ layers) = split layer.content (bases_any p layers) where
  split : (c : Content) → list_any (λ rings. is_on_any (segments_of rings) p) (map (λ b. b.1) (filter_map base_of layers)) ≡ list_any
      (λ layer. base_edge p layer.content) layers → list_any (λ rings. is_on_any (segments_of rings) p)
      (map (λ b. b.1) (filter_map base_of (record { name = layer.name; content = c } ∷ layers))) ≡
      (base_edge p c || list_any (λ layer. base_edge p layer.content) layers)
  split (base rings) e = ap (λ b. is_on_any (segments_of rings) p || b) e
  split (derived expression) e = e

-- whether the layer with a name has rings with a segment that holds the point
abbrev name_edge : List Layer → Point → Name → Bool
name_edge layers p n = list_any (λ layer. bytes_eq layer.name n && base_edge p layer.content) layers

-- the segments of the layers among some names
names_any : (p : Point) (layers : List Layer) (names : List Name) → list_any (name_edge layers p) names ≡ list_any
    (λ (m : Marked). is_on m.segment p) (marked_segments (map (λ b. b.1)
    (filter_map base_of (filter (λ layer. list_any (bytes_eq layer.name) names) layers))))
names_any p layers names =
    any-turned (λ (layer : Layer) n. bytes_eq layer.name n && base_edge p layer.content) names layers
    ∙ (λ j. list_any (λ (layer : Layer). any-and (bytes_eq layer.name) (base_edge p layer.content) names j) layers)
    ∙ sym (any-filter (λ (layer : Layer). base_edge p layer.content) (λ layer. list_any (bytes_eq layer.name) names) layers)
    ∙ sym (bases_any p (filter (λ layer. list_any (bytes_eq layer.name) names) layers))
    ∙ sym (marked_any p 0 (map (λ b. b.1) (filter_map base_of (filter (λ layer. list_any (bytes_eq layer.name) names) layers))))

content_found : (before : List Layer) (layer : Layer) (behind : List Layer) → stands before layer.name ≡ false → content_named (before ++ layer ∷ behind) layer.name ≡ Some layer.content
content_found [] layer behind h = rw (own_name layer.name) refl
content_found (x ∷ before) layer behind h =
    let parts = or_parts (bytes_eq x.name layer.name) (stands before layer.name) h in
    rw parts.0 (content_found before layer behind parts.1)

own_edge : (p : Point) (before : List Layer) (layer : Layer) (behind : List Layer) → is_orderly_after [] (before ++ layer ∷ behind) ≡ true
    → name_edge (before ++ layer ∷ behind) p layer.name ≡ base_edge p layer.content
own_edge p before layer behind h =
    named_passes (base_edge p) [] (before ++ layer ∷ behind) layer.name h ∙ ap (passes (base_edge p)) (content_found before layer behind (fresh [] before layer behind h))

module _ (is_in : Name → Bool) where
  -- the answers of names are those of what they reach
  abbrev pub Reach : List (Name × Bool) → List (Name × List Name) → Type 0
  Reach known reached = (absent : Bool) (none : List Name) (n : Name) → absent ≡ list_any is_in none → named absent known n ≡ list_any is_in (named none reached n)

named-push : {A : Type 0} (absent : A) (known : List (Name × A)) (x : Name) (v : A) (n : Name) → named absent (known ++ (x, v) ∷ []) n ≡ named (cond (bytes_eq x n) v absent) known n
named-push absent [] x v n = refl
named-push absent (e ∷ known) x v n = ap (λ rest. cond (bytes_eq e.0 n) e.1 rest) (named-push absent known x v n)

pub reach_push : (is_in : Name → Bool) (known : List (Name × Bool)) (reached : List (Name × List Name)) (x : Name) (v : Bool) (ns : List Name)
    → Reach is_in known reached → v ≡ list_any is_in ns → Reach is_in (known ++ (x, v) ∷ []) (reached ++ (x, ns) ∷ [])
reach_push is_in known reached x v ns h e absent none n a =
    named-push absent known x v n ∙ h (cond (bytes_eq x n) v absent) (cond (bytes_eq x n) ns none) n (split (bytes_eq x n)) ∙ ap (list_any is_in) (sym (named-push none reached x ns n))
  where
    split : (b : Bool) → cond b v absent ≡ list_any is_in (cond b ns none)
    split true = e
    split false = a

content_step : (is_in : Name → Bool) (p : Point) (known : List (Name × Bool)) (reached : List (Name × List Name)) (name : Name) (content : Content)
    → Reach is_in known reached → is_in name ≡ base_edge p content → content_edge p known content ≡ list_any is_in
    (content_reach name reached content)
content_step is_in p known reached name (base rings) h own = sym own ∙ sym (or_false (is_in name))
content_step is_in p known reached name (derived expression) h own =
    (λ j. list_any (λ u. h false [] u refl j) (leaves expression)) ∙ sym (any-flat_map is_in (named [] reached) (leaves expression)) ∙ ap
    (λ b. b || list_any is_in (flat_map (named [] reached) (leaves expression))) (sym own)

reach_all : (p : Point) (before layers : List Layer) (known : List (Name × Bool)) (reached : List (Name × List Name))
    → is_orderly_after [] (before ++ layers) ≡ true → Reach (name_edge (before ++ layers) p) known reached
    → Reach (name_edge (before ++ layers) p) (fold (λ known layer. known ++ (layer.name, content_edge p known layer.content) ∷ []) known layers)
    (fold (λ known layer. known ++ (layer.name, content_reach layer.name known layer.content) ∷ []) reached layers)
reach_all p before [] known reached h r = r
reach_all p before (layer ∷ layers) known reached h r =
    let joined : (before ++ layer ∷ []) ++ layers ≡ before ++ layer ∷ layers = append_assoc before (layer ∷ []) layers in
    let own = own_edge p before layer layers h in
    let next = reach_push (name_edge (before ++ layer ∷ layers) p) known reached layer.name _ _ r
    (content_step (name_edge (before ++ layer ∷ layers) p) p known reached layer.name layer.content r own) in
    let P : List Layer → Type 0 = λ all. is_orderly_after [] all ≡ true → Reach (name_edge all p)
    (known ++ (layer.name, content_edge p known layer.content) ∷ [])
    (reached ++ (layer.name, content_reach layer.name reached layer.content) ∷ []) → Reach (name_edge all p)
    (fold (λ known layer. known ++ (layer.name, content_edge p known layer.content) ∷ [])
    (known ++ (layer.name, content_edge p known layer.content) ∷ []) layers)
    (fold (λ known layer. known ++ (layer.name, content_reach layer.name known layer.content) ∷ [])
    (reached ++ (layer.name, content_reach layer.name reached layer.content) ∷ []) layers) in
    subst P joined (reach_all p (before ++ layer ∷ []) layers _ _) h next

-- the answer on edges is that of the segments in reach
pub edge_answer : (p : Point) (layers : List Layer) (name : Name) → is_orderly_after [] layers ≡ true
    → named false (answers IsEdge layers p) name ≡ list_any (λ (m : Marked). is_on m.segment p) (segments_in_reach layers name)
edge_answer p layers name h =
    reach_all p [] layers [] [] h (λ absent none n a. a) false [] name refl ∙ names_any p layers (named [] (reaches layers) name)

-- whether a point is on an edge, and whether it is inside, from the answers to the two questions
pub edge_there : (layers : List Layer) (name : Name) (p q : Point) (there : Bool) → is_orderly_after [] layers ≡ true → p ≡ q
    → there ≡ named false (answers IsEdge layers p) name → there ≡ list_any (λ (m : Marked). is_on m.segment q) (segments_in_reach layers name)
edge_there layers name p q there h e is = is ∙ edge_answer p layers name h ∙ ap (λ at. list_any (λ (m : Marked). is_on m.segment at) (segments_in_reach layers name)) e

pub inside_there : (layers : List Layer) (name : Name) (p q : Point) (there : Bool) → p ≡ q → there ≡ named false (answers IsInside layers p) name → there ≡ value_of layers name q
inside_there layers name p q there e is = is ∙ ap (value_of layers name) e

-- where a point lies, from whether it is on an edge and whether it is inside
pub on_edge : (layers : List Layer) (name : Name) (q : Point) (on : Bool)
    → on ≡ list_any (λ (m : Marked). is_on m.segment q) (segments_in_reach layers name) → on ≡ true → edge ≡ answer_at layers name q
on_edge layers name q on is at = ap (λ b. cond b edge (if value_of layers name q then inside else outside)) (sym at ∙ is)

pub off_edge : (layers : List Layer) (name : Name) (q : Point) (on within : Bool)
    → on ≡ list_any (λ (m : Marked). is_on m.segment q) (segments_in_reach layers name) → on ≡ false → within ≡ value_of layers name q
    → (if within then inside else outside) ≡ answer_at layers name q
off_edge layers name q on within is at its =
    ap (λ b. if b then inside else outside) its ∙ ap (λ b. cond b edge (if value_of layers name q then inside else outside)) (sym at ∙ is)
