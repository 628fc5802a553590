use Rattle.std.proofs.Common.{◌≡◌, ℕ, ◌+◌, ◌*◌, ◌^◌, ◌<◌, ◌≤◌, true, List, [], ◌∷◌, ◌++◌, drop, length, refl, sym, subst, ap, ◌∙◌, rules, arith}
use Rattle.std.specs.Prelude.{All, Contains, filter}
use Rattle.std.proofs.lemmas.Nat.{mul-le}
use Rattle.std.proofs.Math.ListN.{length-append}
use Rattle.overlay_terms.proofs.Lists.{contains_first}
use Rattle.exact_point.specs.Place.{place}
use Rattle.exact_point.specs.declared.point.HPoint.{HPoint}
use Rattle.exact_point.specs.declared.point_name.PointName.{PointName}
use Rattle.overlay_terms.specs.Column.{column_count}
use Rattle.arrange.specs.Marked.{segments_max}
use Rattle.crossing_sweep.specs.StripInput.{StripInput, is_in_strip}
use Rattle.crossing_sweep.specs.UnderWay.{IsUnderWay}
use Rattle.crossing_sweep.specs.Amid.{PassesUnder, begins_within}
use Rattle.crossing_sweep.specs.Rows.{count_settled}
use Rattle.crossing_sweep.specs.declared.progress.Progress.{Progress}
use Rattle.crossing_sweep.specs.declared.start.Start.{Start}
use Rattle.crossing_sweep.specs.declared.search.Search.{Search}
use Rattle.crossing_sweep.proofs.Settled.{settled_after}
use Rattle.crossing_sweep.proofs.UnderWay.{count_most}
use Rattle.crossing_sweep.proofs.NameLemmas.{are_closed, kept_after}
use Rattle.crossing_sweep.proofs.Leaving.{goes_on, closes, still_listed}
use Rattle.crossing_sweep.proofs.pass.go_on.Goals as goal

-- no count of nodes is too high for a number
sum_fits : (k m n : ℕ) → k ≤ m * (m * 3 + column_count) → m ≤ segments_max → n ≡ k → n + 1 < 2 ^ 64
sum_fits k m n few fits same =
    let wide : m * 3 + column_count ≤ segments_max * 3 + column_count = omega (arith, fits) in
    let most : m * (m * 3 + column_count) ≤ segments_max * (segments_max * 3 + column_count) = mul-le m (m * 3 + column_count) segments_max (segments_max * 3 + column_count) fits wide in
    omega (arith, few, most, same)

pub returns-in_default-clause-passing : goal.returns-in_default-clause-passing
returns-in_default-clause-passing c =
    let progress : Progress = c.args.progress.now in
    let same : progress.search.ahead ≡ c.take_first.new.self = c.in_default.ensures.none refl ∙ sym (c.in_default.ensures.left refl) in
    let amid = c.requires.passing.amid in
    let names : List PointName = c.requires.passing.names in
    let input : StripInput = c.args.input.now in
    let rest : List Start = drop progress.entered progress.starts.items in
    record {
      names = names;
      amid = record {
        full = amid.full;
        all_coming = amid.all_coming;
        way = subst (λ (l : List (HPoint × PointName)). IsUnderWay input progress.search.listed amid.full amid.all_coming l progress.search.tests.items progress.rows.items names) same amid.way;
        gone = amid.gone;
        some = amid.some;
        kept = amid.kept;
        is = amid.is;
        full_is = amid.full_is;
        gone_under = subst (λ (l : List (HPoint × PointName)). All (PassesUnder l) amid.gone) same amid.gone_under;
        some_under = subst (λ (l : List (HPoint × PointName)). All (PassesUnder l) amid.some) same amid.some_under;
        same_status = subst (λ (l : List (HPoint × PointName)). (z : HPoint × PointName) → Contains l z → is_in_strip input.strip (place z.0) ≡ true → progress.status.items ≡ filter (begins_within input names) amid.full) same amid.same_status;
        to_come = subst (λ (l : List (HPoint × PointName)). (z : HPoint × PointName) → Contains l z → is_in_strip input.strip (place z.0) ≡ true → amid.all_coming ≡ rest) same amid.to_come;
      };
      known = c.requires.passing.known;
      counted = c.requires.passing.counted;
      kept = c.requires.passing.kept;
    }

pub returns-in_default-clause-few : goal.returns-in_default-clause-few
returns-in_default-clause-few c = let few = count_most c.args.input.now c.requires.passing.names c.requires.passing.amid.way in omega (arith, few, c.requires.passing.counted)

pub overflow_add-progress : goal.overflow_add-progress
overflow_add-progress c =
    let counted = c.requires.passing.counted in
    let few = count_most c.args.input.now c.requires.passing.names c.requires.passing.amid.way in
    let same : c.step.new.self.nodes ≡ c.args.progress.now.nodes = c.in_ok-step.ensures.nodes in
    let fits : c.step.new.self.nodes + 1 < 2 ^ 64 = sum_fits (length c.requires.passing.names) (length c.args.input.now.marked) c.step.new.self.nodes few c.marked.ensures.fits (same ∙ counted) in
    omega (arith, fits)

pub returns-clause-passing : goal.returns-clause-passing
returns-clause-passing c =
    let progress : Progress = c.args.progress.now in
    let input : StripInput = c.args.input.now in
    let after : Progress = c.step.new.self in
    let coming : List Start = drop progress.entered progress.starts.items in
    let rest : List Start = drop after.entered after.starts.items in
    let old : Search = record { ahead = c.take_first.new.self; listed = progress.search.listed; tests = progress.search.tests } in
    let names : List PointName = c.requires.passing.names in
    let amid = c.requires.passing.amid in
    let Q : List (HPoint × PointName) → Type 0 = λ l. IsUnderWay input progress.search.listed amid.full amid.all_coming l progress.search.tests.items progress.rows.items names in
    let way : IsUnderWay input progress.search.listed amid.full amid.all_coming ((c.in-Some.node.at, c.in-Some.node.name) ∷ c.take_first.new.self) progress.search.tests.items progress.rows.items names =
    subst Q c.in-Some.ensures.first amid.way in
    let numbered : progress.nodes ≡ length names = c.requires.passing.counted in
    let head : Contains progress.search.ahead (c.in-Some.node.at, c.in-Some.node.name) =
    subst (λ (l : List (HPoint × PointName)). Contains l (c.in-Some.node.at, c.in-Some.node.name)) (sym c.in-Some.ensures.first) (contains_first (c.in-Some.node.at, c.in-Some.node.name) c.take_first.new.self) in
    let same : after.nodes ≡ progress.nodes = c.in_ok-step.ensures.nodes in
    record {
      names = names ++ c.in-Some.node.name ∷ [];
      amid =
          goes_on input old after.search progress.status.items after.status.items coming rest c.in-Some.node.at c.in-Some.node.name progress.nodes progress.rows.items after.rows.items names amid.full amid.all_coming way c.in-Some.ensures.least numbered
          amid.gone amid.some amid.kept amid.is amid.full_is (subst (λ (l : List (HPoint × PointName)). All (PassesUnder l) amid.gone) c.in-Some.ensures.first amid.gone_under)
          (subst (λ (l : List (HPoint × PointName)). All (PassesUnder l) amid.some) c.in-Some.ensures.first amid.some_under) (amid.same_status (c.in-Some.node.at, c.in-Some.node.name) head) (amid.to_come (c.in-Some.node.at, c.in-Some.node.name) head) c.in_ok-step.ensures.stepped c.in_ok-step.ensures.closed c.in_ok-step.ensures.searched;
      known = c.in_ok-step.ensures.few;
      counted = omega (arith, same, numbered, length-append names (c.in-Some.node.name ∷ []));
      kept = kept_after names c.in-Some.node.name progress.nodes progress.status.items after.status.items c.step.new.stay.items progress.rows.items after.rows.items progress.names.items c.keep.new.names.items c.is_needed-needed.result c.requires.passing.kept
          (are_closed c.in-Some.node.at progress.nodes progress.rows.items after.rows.items c.in_ok-step.ensures.stepped c.in_ok-step.ensures.closed) c.in_ok-step.ensures.members numbered c.in_ok-step.ensures.begun
          (λ e. (search rules, search rules)) (λ e. search rules) (λ e. search rules);
    }

pub returns-clause-few : goal.returns-clause-few
returns-clause-few c = let passing = returns-clause-passing c in let few = count_most c.args.input.now passing.names passing.amid.way in omega (arith, few, passing.counted)

pub returns-clause-settled : goal.returns-clause-settled
returns-clause-settled c some =
    let progress : Progress = c.args.progress.now in
    let names : List PointName = c.requires.passing.names in
    let after : Progress = c.step.new.self in
    let numbered : progress.nodes ≡ length names = c.requires.passing.counted in
    let closed = closes c.in-Some.node.at progress.nodes progress.rows.items after.rows.items c.in_ok-step.ensures.stepped c.in_ok-step.ensures.closed in
    let way = c.requires.passing.amid.way in
    let settled : count_settled (length names + 1) after.rows.items ≡ length progress.rows.items =
    settled_after c.args.input.now way.q names progress.rows.items after.rows.items closed.0 progress.nodes way.carries.are_rows numbered closed.1 in
    let same : after.nodes ≡ progress.nodes = c.in_ok-step.ensures.nodes in
    let longer : after.nodes + 1 ≡ length names + 1 = ap (λ n. n + 1) (same ∙ numbered) in
    ap (λ n. count_settled n after.rows.items) longer ∙ settled

pub returns-clause-listed : goal.returns-clause-listed
returns-clause-listed c =
    let progress : Progress = c.args.progress.now in
    let after : Progress = c.step.new.self in
    still_listed c.in-Some.node.at progress.nodes progress.rows.items after.rows.items c.in_ok-step.ensures.stepped c.in_ok-step.ensures.searched
