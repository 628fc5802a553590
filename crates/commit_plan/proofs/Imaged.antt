-- What is known of an image, as its layers take their tiles.
use Rattle.std.proofs.Common.{List, Result, Ok, Err, IfOk}
use Rattle.layer_book.specs.Layer.{IsBook}
use Rattle.record_writing.specs.Stored.{IsImage}
use Rattle.store_terms.specs.Catalog.{Listed}
use Rattle.store_terms.specs.Image.{Held}
use Rattle.commit_plan.specs.Staying.{LiveContent}
use Rattle.commit_plan.specs.Drafted.{Drafted}
use Rattle.commit_plan.specs.Next.{Spell}
use Rattle.commit_plan.specs.RecordPlaces.{AreLayersFiled}

pub spell_of : (live : LiveContent) (x : Held) (ls : List Listed) (old new : Drafted) → IsImage x → IsBook x.layers
    → (a : AreLayersFiled live old x.layers x.tiles ls new) → Spell live a.filed ls x
spell_of live x ls old new image book a = record {
  spelled = a.spelled;
  stored = record { orderly = book.sound.orderly; few = book.sound.few; named = book.named };
  small = image.small;
  listed = a.listed;
}

-- what is true of a value is, where there is one
pub if_ok : {T E : Type 0} (r : Result T E) (P Q : T → Type 0) → ((x : T) → P x → Q x) → IfOk r P → IfOk r Q
if_ok (Ok x) P Q wider is = wider x is
if_ok (Err e) P Q wider is = tt
