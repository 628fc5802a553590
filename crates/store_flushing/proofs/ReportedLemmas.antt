-- How what was reported durable stays reported.
use Rattle.std.proofs.Common.{◌≡◌, ◌⊎◌, inl, inr, ⊎_elim, ℕ, suc, ◌≤◌, List, [], ◌∷◌, ◌++◌, length, drop, map, All, refl, sym, ap, ◌∙◌, subst, arith}
use Rattle.std.specs.List.{Contains, cons_option, slice_index_or}
use Rattle.std.proofs.lemmas.List.{append-nil, map-append, length-map, get_or-map}
use Rattle.std.proofs.lemmas.List.Elements.{All-append, All-from_recursion, All-map, All-weaker, filter_map-append}
use Rattle.std.proofs.Math.Seq.{drop-append_seam}
use Rattle.disk_model.specs.declared.disk.Disk.{Ghosts}
use Rattle.disk_model.specs.Moments.{LeavesOnly}
use Rattle.overlay_terms.specs.Histories.{Version, Event, accepted, kept, durable_to, Entry, History, AllFollow, Follows, IsHistory, BeginsWith, last_version, newest}
use Rattle.flush_core.specs.declared.flusher.Flusher.{Flusher}
use Rattle.book_history.specs.Logs.{history_of}
use Rattle.book_history.proofs.Fronts.{prefix_self, prefix_trans}
use Rattle.kept_store.specs.Among.{IsFileIn}
use Rattle.store_flushing.specs.Laws.{DurableIsReported}
use Rattle.kept_store.specs.Storing.{IsStoreOf, KeepsReported}
use Rattle.kept_store.specs.Since.{number_reported, reported_in}
use Rattle.store_flushing.specs.ReportNote.{news_in, note_then, notes_at, notes_in, StaysReported, NotesGoOn, KeepsNotes}
use Rattle.store_flushing.specs.declared.keeper.Keeper.{Keeper}
use Rattle.store_flushing.specs.declared.keeper.report_log.ReportNote.{ReportNote}
use Rattle.kept_store.proofs.ReportsLemmas.{low_in, none_in}
use Rattle.kept_store.proofs.Histories.{begins_self, file_more, follow_rest, last_append}
use Rattle.kept_store.proofs.Storage.{OnlyNow, store_leaves}

module _ (was now : History) (on : BeginsWith now was) where
  -- what a longer history reports: what it reported, and its news
  entries_on : reported_in now.entries ≡ reported_in was.entries ++ reported_in on.0
  entries_on = ap (λ (h : History). reported_in h.entries) on.1 ∙ filter_map-append (λ (e : Entry). number_reported e.event) was.entries on.0

  pub reported_on : reported_in now.entries ≡ reported_in was.entries ++ news_in was now
  reported_on =
      entries_on ∙ ap (λ (ns : List ℕ). reported_in was.entries ++ ns)
      (sym (ap (drop (length (reported_in was.entries))) entries_on ∙ drop-append_seam (reported_in was.entries) (reported_in on.0)))

  last_on : newest now ≡ last_version (newest was) on.0
  last_on = ap newest on.1 ∙ last_append was.start was.entries on.0

  -- none, where as much is durable
  pub reported_same : IsHistory now → (newest now).durable ≡ (newest was).durable → reported_in now.entries ≡ reported_in was.entries
  reported_same history same =
      let rest : AllFollow (newest was) on.0 = follow_rest was.start was.entries on.0 (subst IsHistory on.1 history) in
      let level : (last_version (newest was) on.0).durable ≤ (newest was).durable = omega (arith, ap (λ (v : Version). v.durable) last_on, same) in
      entries_on ∙ ap (λ (ns : List ℕ). reported_in was.entries ++ ns) (none_in (newest was) on.0 rest level) ∙ append-nil (reported_in was.entries)

  -- none is greater than what is durable
  pub news_low : (top : ℕ) → IsHistory now → (newest now).durable ≤ top → All (λ n. n ≤ top) (news_in was now)
  news_low top history low =
      let rest : AllFollow (newest was) on.0 = follow_rest was.start was.entries on.0 (subst IsHistory on.1 history) in
      let news : reported_in on.0 ≡ news_in was now = sym (ap (drop (length (reported_in was.entries))) entries_on ∙ drop-append_seam (reported_in was.entries) (reported_in on.0)) in
      let all = All-from_recursion (λ n. n ≤ (last_version (newest was) on.0).durable) (reported_in on.0) (low_in (newest was) on.0 rest) in
      subst (All (λ n. n ≤ top)) news
      (All-weaker (λ n. n ≤ (last_version (newest was) on.0).durable) (λ n. n ≤ top) (λ n le. omega (arith, le, ap (λ (v : Version). v.durable) last_on, low)) (reported_in on.0) all)

-- no number that a history reports is greater than what is durable
pub all_low : (h : History) (top : ℕ) → IsHistory h → (newest h).durable ≤ top → All (λ n. n ≤ top) (reported_in h.entries)
all_low h top history low =
    All-weaker (λ n. n ≤ (newest h).durable) (λ n. n ≤ top) (λ n le. omega (arith, le, low)) (reported_in h.entries)
    (All-from_recursion (λ n. n ≤ (newest h).durable) (reported_in h.entries) (low_in h.start h.entries history))

-- the durable number at the end is that of the beginning, or was reported
notes_by : (old new : Version) (event : Event) (rest : List ℕ) (last : ℕ) → Follows old event new → (last ≡ new.durable) ⊎ Contains rest last
    → (last ≡ old.durable) ⊎ Contains (cons_option (number_reported event) rest) last
notes_by old new (accepted session batch) rest last f is = ⊎_elim (λ same. inl (same ∙ f.durable)) inr is
notes_by old new (kept name column tile) rest last f is = ⊎_elim (λ same. inl (same ∙ f.durable)) inr is
notes_by old new (durable_to number) rest last f is =
    inr (⊎_elim (λ same. (0, omega arith, sym (same ∙ f.durable))) (λ there. (suc there.0, omega (arith, there.1), there.2)) is)

reported_last : (v : Version) (es : List Entry) → AllFollow v es → ((last_version v es).durable ≡ v.durable) ⊎ Contains (reported_in es) (last_version v es).durable
reported_last v [] f = inl refl
reported_last v (e ∷ es) f = notes_by v e.version e.event (reported_in es) (last_version e.version es).durable f.0 (reported_last e.version es f.1)

pub durable_is_reported : DurableIsReported
durable_is_reported h history = reported_last h.start h.entries history

-- ---- what was written down

abbrev number_in : ReportNote → ℕ
number_in t = t.number

numbers_at : (moment : ℕ) (ns : List ℕ) → map number_in (notes_at moment ns) ≡ ns
numbers_at moment [] = refl
numbers_at moment (n ∷ ns) = ap (λ (ms : List ℕ). n ∷ ms) (numbers_at moment ns)

small_in : (top : ℕ) (reported : List ReportNote) → All (λ n. n ≤ top) (map number_in reported) → All (λ (t : ReportNote). t.number ≤ top) reported
small_in top reported all k d at =
    subst (λ n. n ≤ top) (get_or-map number_in reported k d (number_in d) at) (all k (number_in d) (omega (arith, at, length-map reported number_in)))

module _ {D : Type 0} (g : Ghosts D) where
  -- a number stays reported, from the disk first on, up to this one
  abbrev Stays : History → D → D → ReportNote → Type 0
  Stays history first last t =
      (g.moment first ≤ t.moment) × (t.moment ≤ g.moment last) × ((c : List ℕ) → g.left_since last t.moment c → IsFileIn history t.number c)

  pub reports_self : (h : History) (reported : List ReportNote) (disk : D) → NotesGoOn g h reported disk h reported disk
  reports_self h reported disk = record { goes_on = prefix_self reported; later = omega arith; stays = λ first from is. is }

  pub reports_then : (a b c : History) (x y z : List ReportNote) (s t u : D) → NotesGoOn g a x s b y t → NotesGoOn g b y t c z u → NotesGoOn g a x s c z u
  reports_then a b c x y z s t u one two = record {
    goes_on = prefix_trans x y z one.goes_on two.goes_on;
    later = omega (arith, one.later, two.later);
    stays = λ first from is. two.stays first (omega (arith, from, one.later)) (one.stays first from is);
  }

  -- the history goes on where as much is durable, and so does the disk
  still : (was now : History) (top : ℕ) (first old new : D) (t : ReportNote) → BeginsWith now was → LeavesOnly g old new (IsFileIn now top) → t.number ≤ top
      → Stays was first old t → Stays now first new t
  still was now top first old new t on run low is = (
    is.0,
    omega (arith, is.1, run.later),
    λ c left. ⊎_elim (λ before. file_more was now t.number t.number c on (omega arith) (is.2 c before)) (λ file. file_more now now top t.number c (begins_self now) low file)
        (run.before t.moment c is.1 left),
  )

  pub none_reported : (was now : History) (s t : Flusher D g) (reported : List ReportNote) → KeepsReported g was s now t → (newest now).durable ≡ (newest was).durable
      → NotesGoOn g was reported s.commit.disk now reported t.commit.disk
  none_reported was now s t reported call same = record {
    goes_on = prefix_self reported;
    later = call.moments.later;
    stays = λ first from is.
        let top = s.commit.root.version in
        let each = reported_same was now call.goes_on call.valid same ∙ is.each in
        let small = small_in top reported (subst (All (λ n. n ≤ top)) each (all_low now top call.valid call.reported)) in
        record {
          each = each;
          stays = λ k d at. still was now top first s.commit.disk t.commit.disk (slice_index_or reported k d) call.goes_on call.moments (small k d at) (is.stays k d at);
        };
  }

  -- news is reported, with the disk's moment
  pub news_reported : (was now : History) (s : Flusher D g) (reported more : List ReportNote) → OnlyNow g s → KeepsReported g was s now s
      → more ≡ reported ++ notes_at (g.moment s.commit.disk) (news_in was now) → NotesGoOn g was reported s.commit.disk now more s.commit.disk
  news_reported was now s reported more at call is_more = subst (λ (l : List ReportNote). NotesGoOn g was reported s.commit.disk now l s.commit.disk) (sym is_more) (record {
    goes_on = (notes_at (g.moment s.commit.disk) (news_in was now), refl);
    later = omega arith;
    stays = λ first from is.
        let top = s.commit.root.version in
        let m = g.moment s.commit.disk in
        let news = news_in was now in
        let disk = s.commit.disk in
        let P : ReportNote → Type 0 = Stays now first disk in
        record {
          each = reported_on was now call.goes_on ∙ ap (λ (ns : List ℕ). ns ++ news) is.each
              ∙ ap (λ (ns : List ℕ). map number_in reported ++ ns) (sym (numbers_at m news)) ∙ sym (map-append number_in reported (notes_at m news));
          stays = All-append P reported (notes_at m news)
              (All-weaker (Stays was first disk) P (λ (t : ReportNote) old. (old.0, old.1, λ c left. file_more was now t.number t.number c call.goes_on (omega arith) (old.2 c left))) reported is.stays)
              (All-map P (note_then m) news (All-weaker (λ n. n ≤ top) (λ n. P (note_then m n))
              (λ n low. (from, omega arith, λ c left. file_more now now top n c (begins_self now) low (store_leaves g now s call.store c (at c left))))
              news (news_low was now call.goes_on top call.valid call.reported)));
        };
  })

  -- of a version alone nothing is reported
  pub none_yet : (start : Version) (disk : D) → StaysReported g (record { start = start; entries = [] }) [] disk disk
  none_yet start disk = record { each = refl; stays = λ k d at. absurd (omega (arith, at)) }

  -- a book that ends reports no more
  pub reported_at_end : (was now : History) (reported : List ReportNote) (disk : D) → BeginsWith now was → IsHistory now → (newest now).durable ≡ (newest was).durable → NotesGoOn g was reported disk now reported disk
  reported_at_end was now reported disk on history same = record {
    goes_on = prefix_self reported;
    later = omega arith;
    stays = λ first from is. record {
      each = reported_same was now on history same ∙ is.each;
      stays = λ k d at. let old = is.stays k d at in
          (old.0, old.1, λ c left. file_more was now (slice_index_or reported k d).number (slice_index_or reported k d).number c on (omega arith) (old.2 c left));
    };
  }

  -- ---- calls of a keeper, one after another

  pub reporting_self : (k : Keeper D g) → KeepsNotes g k k
  reporting_self k is = reports_self (history_of k.reporter.log) (notes_in k.notes) k.held.flusher.commit.disk

  pub reporting_then : (a b c : Keeper D g) → KeepsNotes g a b → (IsStoreOf g (history_of a.reporter.log) a.held.flusher → IsStoreOf g (history_of b.reporter.log) b.held.flusher)
      → KeepsNotes g b c → KeepsNotes g a c
  reporting_then a b c one store two is =
      reports_then (history_of a.reporter.log) (history_of b.reporter.log) (history_of c.reporter.log) (notes_in a.notes) (notes_in b.notes) (notes_in c.notes)
      a.held.flusher.commit.disk b.held.flusher.commit.disk c.held.flusher.commit.disk (one is) (two (store is))
