use Rattle.std.proofs.Common.{rules}
use Rattle.wkt_form.proofs.PlainNumbers.{number_seen}
use Rattle.wkt_form.proofs.TokenLemmas.{word_seen, run_seen}
use Rattle.wkt_form.proofs.token.first_symbol.Goals as goal

pub returns-in-Some-clause-first : goal.returns-in-Some-clause-first
returns-in-Some-clause-first c at = number_seen c.args.bytes.now c.in-Some.number c.in-Some.size c.in-Some.ensures at

pub returns-then-is_ascii_alphabetic-clause-first :
    goal.returns-then-is_ascii_alphabetic-clause-first
returns-then-is_ascii_alphabetic-clause-first c at =
    rw (c.word_symbol.ensures, c.letter_count-size.ensures) (word_seen c.args.bytes.now c.requires.some (search rules) at)

pub returns-then-is_run_byte-clause-first : goal.returns-then-is_run_byte-clause-first
returns-then-is_run_byte-clause-first c at =
    rw (c.run_symbol.ensures, c.run_byte_count-size.ensures) (run_seen c.args.bytes.now c.requires.some (search rules) at)
