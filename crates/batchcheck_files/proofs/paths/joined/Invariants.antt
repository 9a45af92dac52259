-- `batchcheck_files::paths::joined`: the parts so far stand within the path.
use Rattle.std.proofs.Common.{◌≤◌}
use Rattle.batchcheck_files.proofs.paths.joined.Given as goal

abbrev pub invariant-loop-part : goal.invariant-loop-part
invariant-loop-part l = l.whole.length ≤ 4096
