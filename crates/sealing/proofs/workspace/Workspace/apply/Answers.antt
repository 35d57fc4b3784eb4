use Rattle.std.proofs.Common.{rules}
use Rattle.sealing.proofs.Laws.{applied}
use Rattle.sealing.proofs.workspace.Workspace.apply.Goals as goal

pub returns-clause-value : goal.returns-clause-value
returns-clause-value c = applied c.args.key.now.bytes c.args.nonce.now.0 c.args.text.now _ _ (search rules)
