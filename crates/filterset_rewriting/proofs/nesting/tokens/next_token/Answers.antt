use Rattle.std.proofs.Common.{sym}
use Rattle.filterset_rewriting.proofs.Lexing.{by_sign}
use Rattle.filterset_rewriting.proofs.nesting.tokens.next_token.Goals as goal

pub returns-in-Some-clause-token : goal.returns-in-Some-clause-token
returns-in-Some-clause-token c token t begins = by_sign begins c.in-Some.token (sym c.in-Some.ensures)
