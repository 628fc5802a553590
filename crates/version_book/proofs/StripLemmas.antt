-- What is made of tiles of neighbouring columns that can be handed out.
use Rattle.std.proofs.Common.{◌≡◌, ℕ, ◌+◌, ◌<◌, ◌≤◌, List, [], ◌∷◌, length, get_or, take, refl, ap, sym, ◌∙◌, subst, arith}
use Rattle.std.specs.List.{All}
use Rattle.std.proofs.lemmas.List.{get_or-take, length-take-le}
use mathlib.Core.List.{IsPrefix}
use Rattle.logbook.specs.Pages.{Book}
use Rattle.overlay_terms.specs.Plane.{WholePoint}
use Rattle.overlay_terms.specs.Trees.{Steps}
use Rattle.overlay_terms.specs.Layers.{Layer, Name, layers_in_reach, marked_segments, steps_in_reach}
use Rattle.overlay_terms.specs.Histories.{Entry, Tile, Version}
use Rattle.overlay_terms.specs.Tiles.{Input, input_of}
use Rattle.arrange.specs.Marked.{kept_in}
use Rattle.crossing_sweep.specs.StripInput.{StripInput, part}
use Rattle.layer_book.proofs.MarkedLayers.{rings_of}
use Rattle.book_history.specs.Logs.{newest_in, IsLog}
use Rattle.book_lock.proofs.Finishing.{begun}
use Rattle.book_lock.proofs.Growing.{layers_stay}
use Rattle.version_book.specs.declared.held_tiles.HeldTile.{HeldTile}
use Rattle.version_book.specs.Free.{IsFree}
use Rattle.version_book.specs.Jobs.{IsHandedOut, IsJob}
use Rattle.version_book.specs.Strips.{job_in, AreNext, HandedStrip, IsStripHandedOut, IsStripJob}

-- a part over the base layers and steps in reach is the input of a tile
pub part_present : (layers : List Layer) (name : Name) (k : ℕ) (bases : List (List (List WholePoint))) (steps : Steps) (part : Input) → bases ≡ rings_of (layers_in_reach layers name) → steps ≡ steps_in_reach layers name
    → part ≡ record { column = k; marked = kept_in k (marked_segments bases); steps = steps } → part ≡ input_of layers name k
part_present layers name k bases steps part b e is = is ∙ (λ i. record { column = k; marked = kept_in k (marked_segments (b i)); steps = e i })

-- a free tile with its part
pub handed_part : (version : Version) (held : List HeldTile) (name : Name) (input : StripInput) (k : ℕ) → IsFree version held name k → part input k ≡ input_of version.layers name k
    → IsHandedOut version held name (part input k)
handed_part version held name input k free is = record { pending = free.pending; free = free.free; present = is }

-- each tile from the first column on
abbrev pub AreHandedOut : Version → List HeldTile → Name → StripInput → Type 0
AreHandedOut version held name input = (k : ℕ) → input.strip.first ≤ k → k ≤ input.strip.last → IsHandedOut version held name (part input k)

module _ (book : Book) (log now : List Entry) (held : List HeldTile) (name tile : Name) (input : StripInput) (is : now ≡ log) (named : name ≡ tile) (each : AreHandedOut (newest_in log) held tile input) where
  -- a strip of them
  pub strip_of_free : IsLog log → input.strip.first ≤ input.strip.last → IsStripJob (record { book = book; log = now; name = name; input = input; next = input.strip.first })
  strip_of_free valid ordered = record { from = omega arith; to = omega arith; jobs = jobs }
    where
      jobs : (k : ℕ) → input.strip.first ≤ k → k ≤ input.strip.last → IsJob (record { book = book; log = now; name = name; input = part input k })
      jobs k low high =
          let there : IsJob (record { book = book; log = log; name = tile; input = part input k }) = record { valid = valid; pending = (each k low high).pending; present = (each k low high).present } in
          subst (λ l. IsJob (record { book = book; log = l; name = name; input = part input k })) (sym is)
          (subst (λ n. IsJob (record { book = book; log = log; name = n; input = part input k })) (sym named) there)

  pub strip_handed : (strip : HandedStrip) → strip ≡ record { book = book; log = now; name = name; input = input; next = input.strip.first } → IsStripHandedOut (newest_in log) held strip
  strip_handed strip made =
      let there : IsStripHandedOut (newest_in log) held (record { book = book; log = now; name = name; input = input; next = input.strip.first }) =
      record { whole = refl; each = subst (λ n. AreHandedOut (newest_in log) held n input) (sym named) each } in
      subst (IsStripHandedOut (newest_in log) held) (sym made) there

-- ---- tiles that are built
-- one tile, of the next column
pub one_next : (strip : HandedStrip) (one : Input × Tile) → strip.next ≤ strip.input.strip.last → one.0 ≡ part strip.input strip.next → AreNext strip (one ∷ [])
one_next strip one left is = record {
  few = omega arith;
  inputs = λ i d within. let first : 0 ≡ i = omega arith in
      subst (λ n. (get_or (one ∷ []) n d).0 ≡ part strip.input (strip.next + n)) first (is ∙ ap (part strip.input) (omega arith));
}

-- the first of these tiles
pub first_next : (strip : HandedStrip) (built : List (Input × Tile)) (n : ℕ) → n ≤ length built → AreNext strip built → AreNext strip (take n built)
first_next strip built n within next =
    let long = length-take-le n built within in
    record {
      few = omega (arith, next.few, long);
      inputs = λ i d before. let low : i < n = omega (arith, long) in
          ap (λ (b : Input × Tile). b.0) (get_or-take n built i d low) ∙ next.inputs i d (omega arith);
    }

-- where no command was accepted since the strip was handed out, all of them are built of the present inputs
pub all_present : (strip : HandedStrip) (built : List (Input × Tile)) (log : List Entry) (name : Name) → IsStripJob strip → AreNext strip built → name ≡ strip.name → IsLog log → IsPrefix strip.log log → (newest_in log).number ≡ (newest_in strip.log).number
    → All (λ (b : Input × Tile). b.0 ≡ input_of (newest_in log).layers name b.0.column) built
all_present strip built log name job next named valid longer number i d within =
    let k = strip.next + i in
    let one : IsJob (job_in strip k) = job.jobs k (omega (arith, job.from)) (omega (arith, next.few, within)) in
    let layers = layers_stay strip.log log (begun strip.log one.valid) valid longer number in
    subst (λ (x : Input). x ≡ input_of (newest_in log).layers name x.column) (sym (next.inputs i d within))
    (one.present ∙ (λ j. input_of (sym layers j) (sym named j) k))

-- tiles of all columns of a strip of which none is spent
pub all_next : (strip : HandedStrip) (input : StripInput) (built items : List (Input × Tile)) → strip.next ≡ strip.input.strip.first → input ≡ strip.input → built ≡ items → length items + input.strip.first ≡ input.strip.last + 1
    → ((i : ℕ) (d : Input × Tile) → i < length items → (get_or items i d).0 ≡ part input (input.strip.first + i)) → AreNext strip built
all_next strip input built items whole same is each inputs = subst (AreNext strip) (sym is) (record { few = few; inputs = own })
  where
    first : input.strip.first ≡ strip.input.strip.first
    first = ap (λ (x : StripInput). x.strip.first) same

    last : input.strip.last ≡ strip.input.strip.last
    last = ap (λ (x : StripInput). x.strip.last) same

    few : strip.next + length items ≤ strip.input.strip.last + 1
    few = omega (arith, whole, each, first, last)

    own : (i : ℕ) (d : Input × Tile) → i < length items → (get_or items i d).0 ≡ part strip.input (strip.next + i)
    own i d within = inputs i d within ∙ ap (λ (x : StripInput). part x (x.strip.first + i)) same ∙ ap (λ n. part strip.input (n + i)) (sym whole)
