-- The writes of a plan lead from any file whose other gate is shut to both roots whole.
use Rattle.std.proofs.Common.{◌≡◌, inl, inr, ⊎_elim, ℕ, ◌+◌, ◌%◌, ◌≤◌, List, [], ◌∷◌, ◌++◌, length, take, sym, ◌∙◌, ap, subst, arith}
use Rattle.std.specs.List.{AllByRecursion}
use Rattle.store_terms.proofs.BodyLemmas.{body_again, length-body_text}
use Rattle.disk_model.specs.Disk.{part, Holds, Torn}
use Rattle.disk_model.proofs.Ranges.{Apart, part_kept, part_written, part_written_front}
use Rattle.store_terms.specs.Roots.{body_size, body_read, body_text, body_in}
use Rattle.commit_plan.specs.declared.write.Write.{Write}
use Rattle.store_terms.specs.StandsFor.{body_at, slots_end}
use Rattle.commit_plan.specs.Kept.{Kept, extents_in, other, Shut, Ready}
use Rattle.commit_plan.specs.Planning.{Leads, Spare, Plans}
use Rattle.commit_plan.specs.Planning.{IsWritten, IsOff, AreWrittenApart, AllApart, IsPlan}
use Rattle.commit_plan.proofs.Kept.{gate_kept, live_kept, low_apart}
use Rattle.commit_plan.proofs.Reading.{own_is}

-- a write off the live root leaves it, and the shut gate
off_spares : (x : Kept) (w : Write) (old new : List ℕ) → IsOff x w → Shut x old
    → Torn w.at (length w.bytes.items) old new → Shut x new
off_spares x w old new off shut torn =
    let long = shut.live.named.long in
    record {
      live = live_kept old new w.at (length w.bytes.items) torn x (inr (omega (arith, off.behind)))
          (inr (omega (arith, off.behind))) off.apart shut.live;
      closed = λ is. shut.closed
          (sym (gate_kept old new w.at (length w.bytes.items) torn (other x.root) (omega arith) long
          (inr (omega (arith, off.behind)))) ∙ is);
    }

-- nor does the body behind the shut gate touch it
pub body_spares : (x : Kept) (old new : List ℕ) → Shut x old → Torn (body_at (other x.root)) body_size old new → Shut x new
body_spares x old new shut torn =
    let long = shut.live.named.long in
    record {
      live = live_kept old new (body_at (other x.root)) body_size torn x
          (⊎_elim (λ zero. inr (omega (arith, zero))) (λ one. inl (omega (arith, one))) (own_is x.root))
          (⊎_elim (λ zero. inr (omega (arith, zero))) (λ one. inl (omega (arith, one))) (own_is x.root))
          (low_apart old (body_at (other x.root)) body_size (extents_in x) (omega arith) shut.live.named.placed) shut.live;
      closed = λ is. shut.closed
          (sym (gate_kept old new (body_at (other x.root)) body_size torn (other x.root) (omega arith) long
          (inr (omega arith))) ∙ is);
    }

put_kept : (w : Write) (old new : List ℕ) (at n : ℕ) → Apart at n w.at (length w.bytes.items) → IsWritten old w
    → Torn at n old new → IsWritten new w
put_kept w old new at n apart put torn = record {
  within = omega (arith, put.within, torn.no_shorter);
  bytes = part_kept old new at n w.at (length w.bytes.items) torn put.within apart ∙ put.bytes;
}

puts_kept : (x : Kept) (ws : List Write) (old new : List ℕ) (at n : ℕ) → at + n ≤ slots_end → AllByRecursion (IsOff x) ws
    → AllByRecursion (IsWritten old) ws → Torn at n old new → AllByRecursion (IsWritten new) ws
puts_kept x [] old new at n low off puts torn = tt
puts_kept x (w ∷ ws) old new at n low off puts torn = (
  put_kept w old new at n
      (inl (omega (arith, low, off.0.behind))) puts.0 torn,
  puts_kept x ws old new at n low off.1 puts.1 torn,
)

was_put : (w : Write) (file : List ℕ) → Holds file w.at w.bytes.items → IsWritten file w
was_put w file holds = record { within = holds.within; bytes = part_written file w.at w.bytes.items holds }

-- a write keeps a fact on the file
abbrev Keeps : (List ℕ → Type 0) → Write → Type 0
Keeps P w = (old new : List ℕ) → P old → Torn w.at (length w.bytes.items) old new → P new

keeps_both : (P : List ℕ → Type 0) (w : Write) (ws : List Write) → AllByRecursion (Keeps P) ws
    → AllByRecursion (AreWrittenApart w) ws → AllByRecursion (Keeps (λ f. P f × IsWritten f w)) ws
keeps_both P w [] keeps apart = tt
keeps_both P w (v ∷ ws) keeps apart = (
  (λ old new both torn. (
    keeps.0 old new both.0 torn,
    put_kept w old new v.at
        (length v.bytes.items) apart.0 both.1 torn,
  )),
  keeps_both P w ws keeps.1 apart.1,
)

leads_from : (x y : Kept) (ws tail : List Write) (P : List ℕ → Type 0) → AllByRecursion (IsOff x) ws → AllApart ws
    → AllByRecursion (Keeps P) ws
    → ((file : List ℕ) → Shut x file → P file → AllByRecursion (IsWritten file) ws → Leads (Ready x y) tail file)
    → (file : List ℕ) → Shut x file → P file → Leads (Ready x y) (ws ++ tail) file
leads_from x y [] tail P off apart keeps ends file shut here = ends file shut here tt
leads_from x y (w ∷ ws) tail P off apart keeps ends file shut here =
    λ mid torn holds.
    leads_from x y ws tail (λ f. P f × IsWritten f w) off.1 apart.1 (keeps_both P w ws keeps.1 apart.0)
    (λ f s both puts. ends f s both.0 (both.1, puts)) mid
    (off_spares x w file mid off.0 shut torn) (keeps.0 file mid here torn, was_put w mid holds)

keeps_nothing : (ws : List Write) → AllByRecursion (Keeps (λ f. Unit {0})) ws
keeps_nothing [] = tt
keeps_nothing (w ∷ ws) = ((λ old new here torn. tt), keeps_nothing ws)

module _ (x y : Kept) (ws : List Write) (b : Write) (plan : IsPlan x y ws b) where
  size : length b.bytes.items ≡ body_size
  size = ap length plan.spelled ∙ length-body_text y.root

  ready : (mid new : List ℕ) → Shut x mid → AllByRecursion (IsWritten mid) ws → Torn b.at (length b.bytes.items) mid new
      → Holds new b.at b.bytes.items → Ready x y new
  ready mid new shut puts torn held =
      let o = body_at (other x.root) in
      let torn_body : Torn (body_at (other x.root)) body_size mid new =
      subst (λ (n : ℕ). Torn (body_at (other x.root)) n mid new) size
      (subst (λ (n : ℕ). Torn n (length b.bytes.items) mid new) plan.there torn) in
      let held_there : Holds new (body_at (other x.root)) (body_text y.root) =
      subst (Holds new (body_at (other x.root))) plan.spelled
      (subst (λ (n : ℕ). Holds new n b.bytes.items) plan.there held) in
      let shut_new = body_spares x mid new shut torn_body in
      let puts_new = puts_kept x ws mid new (body_at (other x.root)) body_size (omega arith) plan.off puts torn_body in
      let made = plan.makes new shut_new puts_new in
      let spelt : part new (body_at (other x.root)) body_read ≡ take body_read (body_text y.root) =
      part_written_front new (body_at (other x.root)) body_read (body_text y.root) (omega arith) held_there in
      record {
        live = shut_new.live;
        named = record {
          long = shut_new.live.named.long;
          spelt = ap body_in spelt
              ∙ body_again y.root (omega (arith, plan.bounded)) (omega (arith, plan.numbered)) (omega (arith, plan.low))
              (omega (arith, plan.small));
          bounded = plan.bounded;
          numbered = plan.numbered;
          parity = ap (λ (n : ℕ). n % 2) plan.after;
          listing = made.listing;
          placed = made.placed;
          holds = made.holds;
        };
        after = plan.after;
      }

  spare_from : (vs : List Write) → AllByRecursion (IsOff x) vs → Spare (Shut x) (vs ++ b ∷ [])
  spare_from [] off = (
    (λ old new shut torn. body_spares x old new shut
        (subst (λ (n : ℕ). Torn (body_at (other x.root)) n old new) size
        (subst (λ (n : ℕ). Torn n (length b.bytes.items) old new) plan.there torn))),
    tt,
  )
  spare_from (v ∷ vs) off = ((λ old new shut torn. off_spares x v old new off.0 shut torn), spare_from vs off.1)

  pub plans : Plans x y (ws ++ b ∷ [])
  plans = record {
    leads = λ file shut. leads_from x y ws (b ∷ []) (λ f. Unit {0}) plan.off plan.apart (keeps_nothing ws)
        (λ mid s here puts new torn held. ready mid new s puts torn held) file shut tt;
    spares = spare_from ws plan.off;
  }
