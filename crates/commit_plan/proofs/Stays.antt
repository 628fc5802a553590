-- A record that stays spells what it is for.
use Rattle.std.proofs.Common.{◌≡◌, ℕ, zero, suc, ◌+◌, ◌==◌, ◌&&◌, Bool, true, false, cond, List, [], ◌∷◌, ◌++◌, Option, Some, None, bytes_eq, refl, sym, ◌∙◌, ap, subst, inl, inr, arith}
use Rattle.std.proofs.lemmas.Bool.{and_from}
use Rattle.std.proofs.lemmas.Bool.Decides.{Decides-eqb}
use Rattle.overlay_terms.specs.Layers.{Name, Content, base, derived, Layer}
use Rattle.overlay_terms.specs.Histories.{Tile, Finished, tile_at}
use Rattle.layer_book.specs.Layer.{content_named}
use Rattle.store_terms.specs.BaseRecord.{base_of_record}
use Rattle.store_terms.specs.DefinitionRecord.{definition_of_record}
use Rattle.store_terms.specs.TileRecord.{tile_of_record}
use Rattle.store_terms.specs.declared.root.RecordExtent.{RecordExtent}
use Rattle.store_terms.specs.Catalog.{Records, Listed}
use Rattle.store_terms.specs.Spelled.{Spells, TilesAre, LayerIs, LayersAre}
use Rattle.store_terms.proofs.HeldLemmas.{held_is_spelled}
use Rattle.commit_plan.specs.Kept.{Kept, Shut}
use Rattle.commit_plan.specs.Staying.{LiveContent, kept_content, own_extent, entry_at, tile_extent, records_named, holds_content, holds_tile, layer_stays, tile_record_stays}
use Rattle.commit_plan.proofs.EqualityTests.{content_decides, tile_decides}
use Rattle.commit_plan.proofs.Sitting.{layer_sits, layer_holds, tile_sits, tile_holds}

-- the record of a layer spells what it holds
abbrev pub OwnSpells : List ℕ → RecordExtent → Content → Type 0
OwnSpells file e (base rings) = Spells file e base_of_record rings
OwnSpells file e (derived tree) = Spells file e definition_of_record tree

some_is : {A : Type 0} (x y : A) → Some x ≡ Some y → x ≡ y
some_is x y is = cc

module _ (file : List ℕ) where
  is_named : (name : Name) (r : Records) (layer : Layer) (own : List Finished) → LayerIs file name r layer own
      → layer.name ≡ name
  is_named name (inl e) layer own is = ap (λ (l : Layer). l.name) is.1
  is_named name (inr both) layer own is = ap (λ (l : Layer). l.name) is.1

  own_spells : (name : Name) (r : Records) (layer : Layer) (own : List Finished) → LayerIs file name r layer own
      → OwnSpells file (own_extent r) layer.content
  own_spells name (inl e) layer own is =
      subst (λ (l : Layer). OwnSpells file e l.content) (sym is.1) is.3
  own_spells name (inr both) layer own is =
      subst (λ (l : Layer). OwnSpells file both.0 l.content) (sym is.1) is.2

  named_by : (l : Listed) (ls : List Listed) (layer : Layer) (rest : List Layer) (own : List Finished)
      → LayerIs file l.name l.records layer own → (n : Name) (r : Records) (c : Content) (b : Bool)
      → bytes_eq l.name n ≡ b → cond b (Some l.records) (records_named ls n) ≡ Some r
      → content_named (layer ∷ rest) n ≡ Some c
      → (records_named ls n ≡ Some r → content_named rest n ≡ Some c → OwnSpells file (own_extent r) c)
      → OwnSpells file (own_extent r) c
  named_by l ls layer rest own here n r c true at there is later =
      let same = ap (λ (m : Name). bytes_eq m n) (is_named l.name l.records layer own here) ∙ at in
      let content : layer.content ≡ c =
      some_is layer.content c (sym (λ i. cond (same i) (Some layer.content) (content_named rest n)) ∙ is) in
      subst (OwnSpells file (own_extent r)) content
      (subst (λ (s : Records). OwnSpells file (own_extent s) layer.content) (some_is l.records r there)
      (own_spells l.name l.records layer own here))
  named_by l ls layer rest own here n r c false at there is later =
      let same = ap (λ (m : Name). bytes_eq m n) (is_named l.name l.records layer own here) ∙ at in
      later there (sym (λ i. cond (same i) (Some layer.content) (content_named rest n)) ∙ is)

  named_spells : (ls : List Listed) (layers : List Layer) (tiles : List Finished) → LayersAre file ls layers tiles
      → (n : Name) (r : Records) (c : Content) → records_named ls n ≡ Some r → content_named layers n ≡ Some c
      → OwnSpells file (own_extent r) c
  named_spells [] layers tiles are n r c there is = absurd (cc)
  named_spells (l ∷ ls) layers tiles are n r c there is =
      named_by l ls are.0 are.1 are.2 are.6 n r c (bytes_eq l.name n) refl there
      (sym (ap (λ (x : List Layer). content_named x n) are.4) ∙ is)
      (λ rest more. named_spells ls are.1 are.3 are.7 n r c rest more)

  -- the tiles of another name are passed over
  skips : (name : Name) (j : ℕ) (es : List (Option RecordExtent)) (own more : List Finished) (n : Name) (k : ℕ)
      → TilesAre file name j es own → bytes_eq name n ≡ false → tile_at (own ++ more) n k ≡ tile_at more n k
  skips name j [] own more n k are other = ap (λ (l : List Finished). tile_at (l ++ more) n k) are
  skips name j (None ∷ es) own more n k are other = skips name (j + 1) es own more n k are other
  skips name j (Some x ∷ es) own more n k are other =
      ap (λ (l : List Finished). tile_at (l ++ more) n k) are.2
      ∙ (λ i. cond (other i && (j == k)) (Some are.0) (tile_at (are.1 ++ more) n k))
      ∙ skips name (j + 1) es are.1 more n k are.4 other

  -- the tile of a column is the one that its entry spells
  finds : (name : Name) (j i : ℕ) (es : List (Option RecordExtent)) (own more : List Finished) (n : Name)
      (e : RecordExtent) (t : Tile) → TilesAre file name j es own → bytes_eq name n ≡ true → entry_at es i ≡ Some e
      → tile_at (own ++ more) n (j + i) ≡ Some t → Spells file e (tile_of_record (j + i)) t
  finds name j i [] own more n e t are at there is = absurd (cc)
  finds name j zero (None ∷ es) own more n e t are at there is = absurd (cc)
  finds name j (suc i) (None ∷ es) own more n e t are at there is =
      let next : j + 1 + i ≡ j + suc i = omega arith in
      subst (λ (m : ℕ). Spells file e (tile_of_record m) t) next
      (finds name (j + 1) i es own more n e t are at there
      (ap (λ (m : ℕ). tile_at (own ++ more) n m) next ∙ is))
  finds name j zero (Some x ∷ es) own more n e t are at there is =
      let here : j + 0 ≡ j = omega arith in
      let test : (bytes_eq name n && (j == j + 0)) ≡ true = and_from _ _ at ((Decides-eqb j (j + 0)).1 (sym here)) in
      let tile : are.0 ≡ t =
      some_is are.0 t
      (sym (ap (λ (l : List Finished). tile_at (l ++ more) n (j + 0)) are.2
      ∙ (λ k. cond (test k) (Some are.0) (tile_at (are.1 ++ more) n (j + 0)))) ∙ is) in
      subst (λ (m : ℕ). Spells file e (tile_of_record m) t) (sym here)
      (subst (λ (y : RecordExtent). Spells file y (tile_of_record j) t) (some_is x e there)
      (subst (λ (u : Tile). Spells file x (tile_of_record j) u) tile are.3))
  finds name j (suc i) (Some x ∷ es) own more n e t are at there is =
      let next : j + 1 + i ≡ j + suc i = omega arith in
      let test : (bytes_eq name n && (j == j + suc i)) ≡ false = other_column (j == j + suc i) refl in
      let rest : tile_at (are.1 ++ more) n (j + suc i) ≡ Some t =
      sym (ap (λ (l : List Finished). tile_at (l ++ more) n (j + suc i)) are.2
      ∙ (λ k. cond (test k) (Some are.0) (tile_at (are.1 ++ more) n (j + suc i)))) ∙ is in
      subst (λ (m : ℕ). Spells file e (tile_of_record m) t) next
      (finds name (j + 1) i es are.1 more n e t are.4 at there
      (ap (λ (m : ℕ). tile_at (are.1 ++ more) n m) next ∙ rest))
    where
      other_column : (b : Bool) → (j == j + suc i) ≡ b → (bytes_eq name n && (j == j + suc i)) ≡ false
      other_column true same = absurd (let le : j ≡ j + suc i = (Decides-eqb j (j + suc i)).0 same in omega (arith, le))
      other_column false same = ap (λ (b : Bool). bytes_eq name n && b) same ∙ none (bytes_eq name n)
        where
          none : (b : Bool) → (b && false) ≡ false
          none true = refl
          none false = refl

  tile_here : (name : Name) (r : Records) (layer : Layer) (own more : List Finished) → LayerIs file name r layer own
      → (n : Name) (k : ℕ) (e : RecordExtent) (t : Tile) → bytes_eq name n ≡ true → tile_extent r k ≡ Some e
      → tile_at (own ++ more) n k ≡ Some t → Spells file e (tile_of_record k) t
  tile_here name (inl x) layer own more here n k e t at lies is = absurd (cc)
  tile_here name (inr both) layer own more here n k e t at lies is =
      let same : k ≡ 0 + k = omega arith in
      subst (λ (m : ℕ). Spells file e (tile_of_record m) t) (sym same)
      (finds name 0 k both.1 own more n e t here.3 at lies
      (subst (λ (m : ℕ). tile_at (own ++ more) n m ≡ Some t) same is))

  tile_elsewhere : (name : Name) (r : Records) (layer : Layer) (own more : List Finished) → LayerIs file name r layer own
      → (n : Name) (k : ℕ) → bytes_eq name n ≡ false → tile_at (own ++ more) n k ≡ tile_at more n k
  tile_elsewhere name (inl x) layer own more here n k at = ap (λ (l : List Finished). tile_at (l ++ more) n k) here.2
  tile_elsewhere name (inr both) layer own more here n k at = skips name 0 both.1 own more n k here.3 at

  tile_by : (l : Listed) (ls : List Listed) (layer : Layer) (own more : List Finished)
      → LayerIs file l.name l.records layer own → (n : Name) (r : Records) (k : ℕ) (e : RecordExtent) (t : Tile)
      (b : Bool) → bytes_eq l.name n ≡ b → cond b (Some l.records) (records_named ls n) ≡ Some r
      → tile_extent r k ≡ Some e → tile_at (own ++ more) n k ≡ Some t
      → (records_named ls n ≡ Some r → tile_at more n k ≡ Some t → Spells file e (tile_of_record k) t)
      → Spells file e (tile_of_record k) t
  tile_by l ls layer own more here n r k e t true at there lies is later =
      tile_here l.name l.records layer own more here n k e t at
      (ap (λ (q : Records). tile_extent q k) (some_is l.records r there) ∙ lies) is
  tile_by l ls layer own more here n r k e t false at there lies is later =
      later there (sym (tile_elsewhere l.name l.records layer own more here n k at) ∙ is)

  tile_spells : (ls : List Listed) (layers : List Layer) (tiles : List Finished) → LayersAre file ls layers tiles
      → (n : Name) (r : Records) (k : ℕ) (e : RecordExtent) (t : Tile) → records_named ls n ≡ Some r
      → tile_extent r k ≡ Some e → tile_at tiles n k ≡ Some t → Spells file e (tile_of_record k) t
  tile_spells [] layers tiles are n r k e t there lies is = absurd (cc)
  tile_spells (l ∷ ls) layers tiles are n r k e t there lies is =
      tile_by l ls are.0 are.2 are.3 are.6 n r k e t (bytes_eq l.name n) refl there lies
      (sym (ap (λ (x : List Finished). tile_at x n k) are.5) ∙ is)
      (λ rest more. tile_spells ls are.1 are.3 are.7 n r k e t rest lies more)

-- what stays is read where it stays
pub record StayReads (live : LiveContent) (file : List ℕ) : Type 0 where
  pub own : (layer : Layer) (e : RecordExtent) → layer_stays live layer ≡ Some e → OwnSpells file e layer.content
  pub tile : (t : Finished) (e : RecordExtent) → tile_record_stays live t ≡ Some e
      → Spells file e (tile_of_record t.column) t.tile

held_content : (o : Option Content) (content : Content) → holds_content o content ≡ true → o ≡ Some content
held_content None content is = absurd (cc)
held_content (Some held) content is = ap Some ((content_decides held content).0 is)

held_tile : (o : Option Tile) (t : Tile) → holds_tile o t ≡ true → o ≡ Some t
held_tile None t is = absurd (cc)
held_tile (Some held) t is = ap Some ((tile_decides held t).0 is)

pub stay_reads : (x : Kept) (file : List ℕ) → Shut x file → StayReads (kept_content x) file
stay_reads x file shut =
    let named = shut.live.named in
    let are = (held_is_spelled file x.root x.held x.listing named.listing named.holds).0 in
    let live = kept_content x in
    record {
      own = λ layer e is.
          let s = layer_sits live layer e is in
          subst (λ (y : RecordExtent). OwnSpells file y layer.content) (some_is (own_extent s.records) e s.lies_so)
          (named_spells file x.listing x.held.layers x.held.tiles are layer.name s.records layer.content s.there
          (held_content (content_named x.held.layers layer.name) layer.content (layer_holds live layer e is)));
      tile = λ t e is.
          let s = tile_sits live t e is in
          tile_spells file x.listing x.held.layers x.held.tiles are t.name s.records t.column e t.tile s.there s.lies_so
          (held_tile (tile_at x.held.tiles t.name t.column) t.tile (tile_holds live t e is));
    }
