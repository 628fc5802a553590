-- What stands for a version of a history is covered for its batches.
use Rattle.std.proofs.Common.{◌≡◌, ℕ, ◌+◌, ◌-◌, List, [], ◌∷◌, ◌++◌, length, take, refl, sym, ap, subst, ◌∙◌, length-append, arith}
use Rattle.overlay_terms.specs.Batches.{Batch}
use Rattle.overlay_terms.specs.Histories.{Version, History, IsHistory, BeginsWith, newest, accepted_in}
use Rattle.overlay_terms.specs.KeptLaws.{IsExact}
use Rattle.overlay_terms.proofs.HistoryFolds.{newest_has_commands}
use Rattle.overlay_terms.proofs.KeptHistories.{history_is_exact}
use Rattle.overlay_engine.specs.Start.{layers_from, up_to}
use Rattle.overlay_engine.proofs.Recovering.{image_exact}
use Rattle.overlay_server.specs.Durability.{FilesAreCovered, VersionsAreExact, start_of_batches}
use Rattle.line_laws.proofs.Entries.{accepted_more, follow_front}

-- a history that another one goes on from
earlier_is_history : (history earlier : History) → BeginsWith history earlier → IsHistory history → IsHistory earlier
earlier_is_history history earlier on is = follow_front earlier.start earlier.entries on.0 (subst IsHistory on.1 is)

same_start : (history earlier : History) → BeginsWith history earlier → history.start ≡ earlier.start
same_start history earlier on = ap (λ (h : History). h.start) on.1

take_first : (bs more : List Batch) → take (length bs) (bs ++ more) ≡ bs
take_first [] more = refl
take_first (b ∷ bs) more = ap (λ (xs : List Batch). b ∷ xs) (take_first bs more)

-- the batches up to the version that the first of them make
first_up_to : (start number : ℕ) (bs more : List Batch) → number ≡ start + length bs → take (number - start) (bs ++ more) ≡ bs
first_up_to start number bs more is = ap (λ (n : ℕ). take n (bs ++ more)) (omega (arith, is)) ∙ take_first bs more

pub versions_are_exact : VersionsAreExact
versions_are_exact history version is exact among =
    let earlier = among.earlier in
    let first = earlier_is_history history earlier among.begins is in
    subst IsExact (sym among.newest) (history_is_exact earlier first (subst IsExact (same_start history earlier among.begins) exact))

pub files_are_covered : FilesAreCovered
files_are_covered history least file is exact stands =
    let among = stands.among.among in
    let image = stands.among.image in
    let earlier = among.earlier in
    let start = start_of_batches history.start in
    let begins = same_start history earlier among.begins in
    let made = newest_has_commands earlier (earlier_is_history history earlier among.begins is) in
    let first = accepted_in earlier.entries in
    let later = accepted_in among.begins.0 in
    let all : accepted_in history.entries ≡ first ++ later =
    ap (λ (h : History). accepted_in h.entries) among.begins.1 ∙ accepted_more earlier.entries among.begins.0 in
    let newest_number : (newest earlier).number ≡ start.number + length first = made.number ∙ ap (λ (v : Version). v.number + length first) (sym begins) in
    let number : stands.held.number ≡ start.number + length first =
    image.number ∙ ap (λ (v : Version). v.number) among.newest ∙ newest_number in
    let these : up_to start stands.held.number (accepted_in history.entries) ≡ first =
    ap (λ (bs : List Batch). take (stands.held.number - start.number) bs) all ∙ first_up_to start.number stands.held.number first later number in
    let count : length (accepted_in history.entries) ≡ length first + length later = ap (λ (bs : List Batch). length bs) all ∙ length-append first later in
    record {
      held = stands.held;
      no_less = stands.no_less;
      stored = record {
        since = omega (arith, number);
        no_later = omega (arith, number, count);
        layers = image.layers ∙ ap (λ (v : Version). v.layers) among.newest ∙ made.layers
            ∙ ap (λ (v : Version). layers_from (start_of_batches v) first) (sym begins) ∙ ap (λ (bs : List Batch). layers_from start bs) (sym these);
        exact = image_exact stands.among.version stands.held image (versions_are_exact history stands.among.version is exact among);
      };
      stands = stands.stands;
    }
