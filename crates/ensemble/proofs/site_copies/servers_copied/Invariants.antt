use Rattle.std.proofs.Common.{◌≡◌, take}
use Rattle.ensemble.proofs.site_copies.servers_copied.Given as goal

abbrev pub invariant-loop-server : goal.invariant-loop-server
invariant-loop-server l = l.copies.items ≡ take l.server-index l.servers
