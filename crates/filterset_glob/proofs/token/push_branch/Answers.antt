use Rattle.std.proofs.Common.{ap, ◌∙◌}
use Rattle.filterset_glob.specs.Tokens.{branches_of}
use Rattle.filterset_glob.proofs.Opened.{branches_of-push}
use Rattle.filterset_glob.proofs.token.push_branch.Goals as goal

pub returns : goal.returns
returns c = ap branches_of c.in_ok-push.ensures.items ∙ branches_of-push c.args.branches.now.items _
