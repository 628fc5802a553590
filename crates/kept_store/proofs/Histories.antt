-- How histories go on, and how the numbers of their versions rise.
use Rattle.std.proofs.Common.{◌≡◌, ℕ, ◌≤◌, List, [], ◌∷◌, ◌++◌, refl, sym, ap, ◌∙◌, subst, append_assoc, append-nil, arith}
use Rattle.overlay_terms.specs.Histories.{Version, Event, accepted, kept, durable_to, Entry, History, AllFollow, Follows, IsHistory, BeginsWith, last_version, newest}
use Rattle.store_terms.specs.Image.{Held}
use Rattle.kept_store.specs.Among.{IsVersionIn, IsHeldIn, IsFileIn}

pub begins_self : (h : History) → BeginsWith h h
begins_self h = ([], ap (λ (es : List Entry). record { start = h.start; entries = es }) (sym (append-nil h.entries)))

pub begins_trans : (a b c : History) → BeginsWith b a → BeginsWith c b → BeginsWith c a
begins_trans a b c ab bc = (
  ab.0 ++ bc.0,
  bc.1 ∙ ap (λ (h : History). record { start = h.start; entries = h.entries ++ bc.0 }) ab.1
      ∙ ap (λ (es : List Entry). record { start = a.start; entries = es }) (append_assoc a.entries ab.0 bc.0),
)

pub begins_same : (a b : History) → b ≡ a → BeginsWith b a
begins_same a b is = subst (λ (h : History). BeginsWith h a) (sym is) (begins_self a)

rises : (old new : Version) (event : Event) → Follows old event new → old.number ≤ new.number
rises old new (accepted session batch) f = omega (arith, f.number)
rises old new (kept name column tile) f = omega (arith, f.number)
rises old new (durable_to number) f = omega (arith, f.same_number)

pub last_rises : (v : Version) (es : List Entry) → AllFollow v es → v.number ≤ (last_version v es).number
last_rises v [] f = omega arith
last_rises v (e ∷ es) f = omega (arith, rises v e.version e.event f.0, last_rises e.version es f.1)

pub last_append : (v : Version) (xs ys : List Entry) → last_version v (xs ++ ys) ≡ last_version (last_version v xs) ys
last_append v [] ys = refl
last_append v (x ∷ xs) ys = last_append x.version xs ys

pub follow_rest : (v : Version) (xs ys : List Entry) → AllFollow v (xs ++ ys) → AllFollow (last_version v xs) ys
follow_rest v [] ys f = f
follow_rest v (x ∷ xs) ys f = follow_rest x.version xs ys f.1

-- no version of a history has a greater number than its newest
pub numbers_rise : (h : History) (v : Version) → IsHistory h → IsVersionIn h v → v.number ≤ (newest h).number
numbers_rise h v history among =
    let e = among.earlier in
    let more = among.begins.0 in
    let rest : AllFollow (newest e) more = follow_rest e.start e.entries more (subst IsHistory among.begins.1 history) in
    let last : newest h ≡ last_version (newest e) more = ap newest among.begins.1 ∙ last_append e.start e.entries more in
    omega (arith, last_rises (newest e) more rest, ap (λ (w : Version). w.number) last, ap (λ (w : Version). w.number) among.newest)

-- ---- what was a version of a history is one of a longer history

pub among_more : (was now : History) (x : Held) → BeginsWith now was → IsHeldIn was x → IsHeldIn now x
among_more was now x longer held = record {
  version = held.version;
  among = record { earlier = held.among.earlier; begins = begins_trans held.among.earlier was now held.among.begins longer; newest = held.among.newest };
  image = held.image;
}

pub file_more : (was now : History) (least low : ℕ) (file : List ℕ) → BeginsWith now was → low ≤ least → IsFileIn was least file → IsFileIn now low file
file_more was now least low file longer less is = record {
  held = is.held;
  among = among_more was now is.held longer is.among;
  no_less = omega (arith, less, is.no_less);
  stands = is.stands;
}

-- the newest version of a history is one of its versions
pub newest_among : (h : History) (v : Version) → v ≡ newest h → IsVersionIn h v
newest_among h v is = record { earlier = h; begins = begins_self h; newest = is }
