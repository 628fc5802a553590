use Rattle.std.proofs.Common.{◌<◌, ◌∙◌, arith, inr, drop, false}
use Rattle.std.proofs.lemmas.Result.{err_from_is_err_and}
use Rattle.layer_expr.specs.Token.{tokens_after}
use Rattle.layer_expr.specs.Expr.{tree}
use Rattle.layer_expr.specs.Lexeme.{token_in}
use Rattle.layer_expr.specs.Reader.{state_of}
use Rattle.layer_expr.proofs.ReadingLemmas.{goes_on, too_long, step_refused, end_refused, ends_whole}
use Rattle.layer_expr.proofs.SpellingLemmas.{read_is_expression}
use Rattle.layer_expr.proofs.reading.read_expr.Goals as goal

pub returns-then-count-eq-TOKENS_MAX-clause-refused :
    goal.returns-then-count-eq-TOKENS_MAX-clause-refused
returns-then-count-eq-TOKENS_MAX-clause-refused c =
    inr (too_long c.args.bytes.now c.loop-lexeme.count (tokens_after false c.loop-lexeme.at (drop c.loop-lexeme.at c.args.bytes.now)) _ (token_in c.args.bytes.now c.in-Some.lexeme) _ c.loop-lexeme.invariant.read c.in-Some.ensures.some c.if-count-eq-TOKENS_MAX.true)

pub returns-in_err-reader-clause-refused : goal.returns-in_err-reader-clause-refused
returns-in_err-reader-clause-refused c =
    let few : c.loop-lexeme.count < 64 = omega (arith, c.loop-lexeme.invariant.read.few) in
    let refused = step_refused c.args.bytes.now c.loop-lexeme.count (tokens_after false c.loop-lexeme.at (drop c.loop-lexeme.at c.args.bytes.now)) (state_of c.loop-lexeme.reader) (token_in c.args.bytes.now c.in-Some.lexeme) _ c.in_err-reader.field-0.0 c.loop-lexeme.invariant.read c.in-Some.ensures.some few c.in_err-reader.ensures.refused in
    let p = err_from_is_err_and c.from_residual.result c.from_residual.ensures.1 in
    rw (p.1, p.2) refused

pub loop-lexeme-preserved : goal.loop-lexeme-preserved
loop-lexeme-preserved c =
    let few : c.loop-lexeme.count < 64 = omega (arith, c.loop-lexeme.invariant.read.few) in
    record {
      within = c.in-Some.ensures.within.2;
      read = goes_on c.args.bytes.now c.loop-lexeme.count (tokens_after false c.loop-lexeme.at (drop c.loop-lexeme.at c.args.bytes.now)) (tokens_after false c.in-Some.lexeme.end (drop c.in-Some.lexeme.end c.args.bytes.now)) (state_of c.loop-lexeme.reader) (state_of c.in_ok-reader.reader) (token_in c.args.bytes.now c.in-Some.lexeme) c.loop-lexeme.invariant.read few c.in-Some.ensures.some c.in_ok-reader.ensures.ok.0 c.in_ok-reader.ensures.ok.1;
    }

pub returns-in_err-root-clause-refused : goal.returns-in_err-root-clause-refused
returns-in_err-root-clause-refused c =
    let refused = end_refused c.args.bytes.now c.loop-lexeme.count (tokens_after false c.loop-lexeme.at (drop c.loop-lexeme.at c.args.bytes.now)) (state_of c.loop-lexeme.reader) c.in_err-root.field-0.0 c.loop-lexeme.invariant.read c.in_default.ensures.none c.in_err-root.ensures.refused in
    let p = err_from_is_err_and c.from_residual-in_err-root.result c.from_residual-in_err-root.ensures.1 in
    rw (p.1, p.2) refused

pub new-requires : goal.new-requires
new-requires c =
    read_is_expression c.args.bytes.now (tree c.in_ok-root.root) (ends_whole c.args.bytes.now c.loop-lexeme.count (tokens_after false c.loop-lexeme.at (drop c.loop-lexeme.at c.args.bytes.now)) (state_of c.loop-lexeme.reader) (tree c.in_ok-root.root) c.loop-lexeme.invariant.read c.in_default.ensures.none c.in_ok-root.ensures.ok)

pub returns-clause-ok : goal.returns-clause-ok
returns-clause-ok c =
    let read = ends_whole c.args.bytes.now c.loop-lexeme.count (tokens_after false c.loop-lexeme.at (drop c.loop-lexeme.at c.args.bytes.now)) (state_of c.loop-lexeme.reader) (tree c.in_ok-root.root) c.loop-lexeme.invariant.read c.in_default.ensures.none c.in_ok-root.ensures.ok in
    (read.0, read.1, read.2, c.new.ensures ∙ read.3)
