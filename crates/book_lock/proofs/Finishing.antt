-- Tiles that are finished one after another.
use Rattle.std.proofs.Common.{◌≡◌, inl, ℕ, ◌+◌, ◌<◌, ◌≤◌, ◌==◌, not, eq-eqb, ne_eqb, Bool, true, false, List, [], ◌∷◌, ◌++◌, length, take, get_or, refl, ap, sym, ◌∙◌, subst, arith, length-append}
use Rattle.std.proofs.lemmas.List.{take_more}
use Rattle.std.specs.List.{All}
use mathlib.Core.List.{IsPrefix}
use Rattle.overlay_terms.specs.Layers.{Name, Layer}
use Rattle.overlay_terms.specs.Tiles.{Input, input_of}
use Rattle.overlay_terms.specs.Histories.{Tile, Entry, kept, commands_of}
use Rattle.book_history.specs.Logs.{entry, newest_in, IsLog}
use Rattle.book_history.specs.Reporting.{ReportsStored}
use Rattle.book_history.proofs.Fronts.{prefix_self, prefix_trans, prefix_length}
use Rattle.book_history.proofs.Owned.{own_more}
use Rattle.book_lock.specs.Steps.{AreFinishedIn, IsFinishedIn}
use Rattle.book_lock.proofs.Reportings.{reported_more}

-- a log has a first entry
pub begun : (log : List Entry) → IsLog log → 0 < length log
begun [] valid = absurd valid
begun (x ∷ xs) valid = omega arith

-- one tile more
more : (log mid after : List Entry) (name : Name) (tiles : List (Input × Tile)) (one : Input × Tile) (is_kept : Bool) → AreFinishedIn log name tiles mid → IsFinishedIn mid name one.0 one.1 is_kept after → AreFinishedIn log name (tiles ++ one ∷ []) after
more log mid after name [] one is_kept same finished = (is_kept, after, subst (λ l. IsFinishedIn l name one.0 one.1 is_kept after) same finished, refl)
more log mid after name (tile ∷ tiles) one is_kept (was_kept, next, first, rest) finished = (was_kept, next, first, more next mid after name tiles one is_kept rest finished)

-- the tile at a place after those before it
pub finish_next : (log mid after : List Entry) (name : Name) (tiles : List (Input × Tile)) (i : ℕ) (one : Input × Tile) (is_kept : Bool) → i < length tiles → one ≡ get_or tiles i one → AreFinishedIn log name (take i tiles) mid → IsFinishedIn mid name one.0 one.1 is_kept after
    → AreFinishedIn log name (take (i + 1) tiles) after
finish_next log mid after name tiles i one is_kept within is before finished =
    subst (λ (ts : List (Input × Tile)). AreFinishedIn log name ts after) (sym (take_more tiles i one within ∙ ap (λ (t : Input × Tile). take i tiles ++ t ∷ []) (sym is)))
    (more log mid after name (take i tiles) one is_kept before finished)

-- what tiles that are finished leave as it is: they add entries, but no batch and no layer, nor do they report a number
pub record Stays (stored : List Entry → ℕ → Type 0) (log after : List Entry) : Type 0 where
  pub longer : IsPrefix log after
  pub layers : (newest_in after).layers ≡ (newest_in log).layers
  pub own : (by : ℕ) → length (commands_of by after) ≡ length (commands_of by log)
  pub reported : 0 < length log → ReportsStored stored log → ReportsStored stored after

module _ (stored : List Entry → ℕ → Type 0) where
  none_stays : (log : List Entry) → Stays stored log log
  none_stays log = record { longer = prefix_self log; layers = refl; own = λ by. refl; reported = λ long reported. reported }

  one_stays : (log after : List Entry) (name : Name) (input : Input) (tile : Tile) (is_kept : Bool) → IsFinishedIn log name input tile is_kept after → Stays stored log after
  one_stays log after name input tile true (awaited, follows, is) =
      let e : Entry = entry (kept name input.column tile) (newest_in after) in
      record {
        longer = (e ∷ [], sym is);
        layers = follows.layers;
        own = λ by. ap (λ (l : List Entry). length (commands_of by l)) is ∙ ap length (own_more by log e) ∙ omega (arith, length-append (commands_of by log) []);
        reported = λ long reported. reported_more stored log after e is long reported (inl follows.durable);
      }
  one_stays log after name input tile false (not_awaited, absent, is) = subst (Stays stored log) (sym is) (none_stays log)

  both_stay : (log next after : List Entry) → Stays stored log next → Stays stored next after → Stays stored log after
  both_stay log next after a b = record {
    longer = prefix_trans log next after a.longer b.longer;
    layers = b.layers ∙ a.layers;
    own = λ by. b.own by ∙ a.own by;
    reported = λ long reported. let far = prefix_length log next a.longer in b.reported (omega arith) (a.reported long reported);
  }

  pub all_stay : (log after : List Entry) (name : Name) (tiles : List (Input × Tile)) → AreFinishedIn log name tiles after → Stays stored log after
  all_stay log after name [] is = subst (Stays stored log) (sym is) (none_stays log)
  all_stay log after name (tile ∷ tiles) (is_kept, next, first, rest) =
      both_stay log next after (one_stays log next name tile.0 tile.1 is_kept first) (all_stay next after name tiles rest)

-- the tile at a place is built of the present input, where all are, and the layers are the same since
pub there : (name : Name) (tiles : List (Input × Tile)) (i : ℕ) (one : Input × Tile) → i < length tiles → one ≡ get_or tiles i one → (log now : List Entry) → (newest_in now).layers ≡ (newest_in log).layers
    → All (λ (b : Input × Tile). b.0 ≡ input_of (newest_in log).layers name b.0.column) tiles → one.0 ≡ input_of (newest_in now).layers name one.0.column
there name tiles i one within is log now same all =
    subst (λ (ls : List Layer). one.0 ≡ input_of ls name one.0.column) (sym same)
    (subst (λ (b : Input × Tile). b.0 ≡ input_of (newest_in log).layers name b.0.column) (sym is) (all i one within))

-- one tile alone: it is kept exactly where the log has another length then
pub one_finished : (log after : List Entry) (name : Name) (one : Input × Tile) (count : ℕ) (tiles : List (Input × Tile)) (before behind : ℕ) → tiles ≡ one ∷ [] → count ≤ length tiles → (0 < length tiles → 0 < count) → AreFinishedIn log name (take count tiles) after
    → before + 1 ≡ length log → behind + 1 ≡ length after → IsFinishedIn log name one.0 one.1 (not (behind == before)) after
one_finished log after name one count tiles before behind alone few some finished was is =
    let long : length tiles ≡ 1 = ap length alone in
    let all : 1 ≡ count = let any = some (omega (arith, long)) in omega (arith, long, few, any) in
    by_kind (subst (λ (ts : List (Input × Tile)). AreFinishedIn log name (take 1 ts) after) alone (subst (λ n. AreFinishedIn log name (take n tiles) after) (sym all) finished))
  where
    at : (is_kept : Bool) → IsFinishedIn log name one.0 one.1 is_kept after → IsFinishedIn log name one.0 one.1 (not (behind == before)) after
    at true finished =
        let far : behind ≡ before + 1 = omega (arith, was, is, ap length finished.2, length-append log (entry (kept name one.0.column one.1) (newest_in after) ∷ [])) in
        subst (λ b. IsFinishedIn log name one.0 one.1 (not b) after) (sym (ne_eqb behind before (λ same. omega (arith, far, same)))) finished
    at false finished =
        let same : behind ≡ before = omega (arith, was, is, ap length finished.2) in
        subst (λ b. IsFinishedIn log name one.0 one.1 (not b) after) (sym (eq-eqb behind before same)) finished

    by_kind : AreFinishedIn log name (one ∷ []) after → IsFinishedIn log name one.0 one.1 (not (behind == before)) after
    by_kind (is_kept, next, finished, same) = at is_kept (subst (λ l. IsFinishedIn log name one.0 one.1 is_kept l) (sym same) finished)
