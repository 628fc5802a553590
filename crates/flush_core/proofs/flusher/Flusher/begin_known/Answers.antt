use Rattle.std.proofs.Common.{◌≡◌, ◌+◌, Result, Ok, Err, OnOk, ap, sym, subst, ◌∙◌}
use Rattle.std.proofs.lemmas.Result.{on_ok_weaker}
use Rattle.store_terms.specs.Image.{Held}
use Rattle.store_terms.specs.declared.root.Root.{Root}
use Rattle.commit_plan.specs.Live.{live_content}
use Rattle.commit_plan.specs.Sizes.{new_records}
use Rattle.commit_plan.specs.Fitting.{HasNoRoom}
use Rattle.commit_plan.specs.RecordPlaces.{AreKnown}
use Rattle.root_store.specs.Running.{calls_left}
use Rattle.root_store.proofs.Reasons.{refused_so, reason_of}
use Rattle.flush_core.specs.Stored.{IsImageOf, HasRoomFor, HasNoRoomFor}
use Rattle.flush_core.proofs.flusher.Flusher.begin_known.Goals as goal

pub returns-in-Some-clause-errors : goal.returns-in-Some-clause-errors
returns-in-Some-clause-errors g c =
    let s = c.args.self.now.commit in
    refused_so s.phase s.root (HasNoRoomFor s c.args.version.now) c.in-Some.fault c.in-Some.ensures.reason

-- two facts of a success give a third
both : {T E A B C : Type 0} (r : Result T E) → (A → B → C) → OnOk r A → OnOk r B → OnOk r C
both (Ok v) f a b = f a b
both (Err e) f a b = b

pub returns-clause-begun : goal.returns-clause-begun
returns-clause-begun g c = λ x stands.
    let image = c.in_ok-image in
    both c.begin_known.result
    (λ led number. (
      led.0,
      record {
        root = ap (λ (r : Root). r.version) (sym led.2.next_root) ∙ number ∙ image.ensures.tiles.number;
        image = subst (IsImageOf c.args.version.now) (sym led.1) image.ensures.tiles;
      },
      led.2,
    ))
    (c.begin_known.ensures.begun x stands) c.begin_known.ensures.number

pub returns-clause-room : goal.returns-clause-room
returns-clause-room g c =
    let image = c.in_ok-image in
    on_ok_weaker {Q = HasRoomFor c.args.self.now.commit c.args.version.now} c.begin_known.result
    (λ room. record { image = image.image; holds = image.ensures.value; is = room }) c.begin_known.ensures.room

pub returns-clause-errors : goal.returns-clause-errors
returns-clause-errors g c =
    let s = c.args.self.now.commit in
    reason_of c.begin_known.result s.phase s.root (HasNoRoom s.live c.in_ok-image.image) (HasNoRoomFor s c.args.version.now)
    (λ none. record { image = c.in_ok-image.image; holds = c.in_ok-image.ensures.value; is = none }) c.begin_known.ensures.errors

pub returns-clause-calls : goal.returns-clause-calls
returns-clause-calls g c =
    subst (λ (x : Held). OnOk c.begin_known.result (calls_left c.begin_known.new.self ≡ new_records (live_content c.args.self.now.commit.live) x + 7)) c.in_ok-image.ensures.value c.begin_known.ensures.calls

pub returns-clause-number : goal.returns-clause-number
returns-clause-number g c =
    subst (λ (x : Held). OnOk c.begin_known.result (c.begin_known.new.self.next_root.version ≡ x.number)) c.in_ok-image.ensures.value c.begin_known.ensures.number

pub begin_known-requires-clause-known : goal.begin_known-requires-clause-known
begin_known-requires-clause-known g c known =
    subst (λ (x : Held). AreKnown (live_content c.args.self.now.commit.live) x.tiles) (sym c.in_ok-image.ensures.value) (c.requires.known known)

pub returns-clause-next_tiles : goal.returns-clause-next_tiles
returns-clause-next_tiles g c =
    subst (λ (x : Held). OnOk c.begin_known.result ((live_content c.begin_known.new.self.next_live).tiles ≡ x.tiles)) c.in_ok-image.ensures.value c.begin_known.ensures.next_tiles
