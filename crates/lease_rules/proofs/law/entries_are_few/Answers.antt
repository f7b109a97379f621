use Rattle.lease_rules.proofs.RoomLemmas.{consistent_more, room_falls}
use Rattle.lease_rules.proofs.SizesRoomLemmas.{sizes_fall}
use Rattle.lease_rules.proofs.law.entries_are_few.Goals as goal

pub returns-clause-entries : goal.returns-clause-entries
returns-clause-entries c = room_falls

pub returns-clause-sizes : goal.returns-clause-sizes
returns-clause-sizes c = sizes_fall

pub returns-clause-consistent : goal.returns-clause-consistent
returns-clause-consistent c = λ p s e proper. consistent_more p s e (c.storage_laws.ensures p proper)
