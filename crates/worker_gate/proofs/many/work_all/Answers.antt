use denote.Exit.{no, yes}
use denote.Param.{param}
use denote.Param.Send.{IsSend, IsSync, arg_send, arg_sync, param_send, param_sync, sendable, shr_sync}
use Rattle.std.proofs.Crossing as Heap
use Rattle.std.proofs.Crossing.{crosses}
use Rattle.std.specs.contracts.result.Result as result
use Rattle.values.proofs.memory.Memory.TheSendSync as Memory
use Rattle.values.specs.contracts.memory.Memory as memory
use Rattle.plan_core.proofs.plan.Plan.TheSendSync as Plan
use Rattle.plan_core.specs.contracts.plan.Plan as plan
use Rattle.craft.proofs.crew.Crew.TheSendSync as Crew
use Rattle.craft.specs.contracts.crew.Crew as crew
use Rattle.ruled_lock.proofs.lock.RuledLock.TheSendSync as RuledLock
use Rattle.site_yard.specs.contracts.chronicle.Charter as Charter
use Rattle.site_yard.specs.contracts.chronicle.JournalEntry as JournalEntry
use Rattle.site_yard.specs.contracts.chronicle.YardChronicle.TheImpl.{ghosts, no_dict}
use Rattle.site_yard.specs.contracts.yard.Yard as Yard
use Rattle.worker_gate.proofs.hands.Hand.TheSendSync as Hand
use Rattle.worker_gate.proofs.SendLemmas.{four_sync, yard_send}
use Rattle.worker_gate.proofs.many.work_all.Goals as goal

pub for_each_mut-requires-send-T : goal.for_each_mut-requires-send-T
for_each_mut-requires-send-T g c κs within =
    let H = param 1 g.row.H in
    let T = param 2 g.row.T in
    let G = param 3 g.row.G in
    let R = param 4 g.row.H-Reading in
    let D = param 5 g.row.H-Draft in
    let yard : IsSend (Yard.the_row H T R D g.H.Host g.H.Reading.ReadPart g.H.Draft.WritePart g.T.Tool) = yard_send H T R D g.H.Host g.H.Reading.ReadPart g.H.Draft.WritePart g.T.Tool c.type_bounds.send-H in
    let member : IsSend (crew.the_row T G) = Crew.the_send T G c.type_bounds.send-T c.type_bounds.send-G in
    param_send 1 _ (arg_send _ no _ (Hand.the_send (Yard.the_row H T R D g.H.Host g.H.Reading.ReadPart g.H.Draft.WritePart g.T.Tool) (crew.the_row T G) Charter.the_row JournalEntry.the_row
    (ghosts H T R D g.H.Host no_dict g.H.Reading.ReadPart no_dict g.H.Draft.WritePart no_dict g.T.Tool no_dict no_dict no_dict) yard member))

pub for_each_mut-requires-sync-F : goal.for_each_mut-requires-sync-F
for_each_mut-requires-sync-F g c κs within =
    let H = param 1 g.row.H in
    let T = param 2 g.row.T in
    let R = param 4 g.row.H-Reading in
    let D = param 5 g.row.H-Draft in
    let yard : IsSend (Yard.the_row H T R D g.H.Host g.H.Reading.ReadPart g.H.Draft.WritePart g.T.Tool) = yard_send H T R D g.H.Host g.H.Reading.ReadPart g.H.Draft.WritePart g.T.Tool c.type_bounds.send-H in
    let copy : IsSync (result.the_row plan.the_row memory.the_row) = search (sendable, crosses, Plan.the_sync, Memory.the_sync) depth 30 in
    param_sync 2 _ (arg_sync _ yes _ (four_sync _ _ _ _ _ (shr_sync _ _ (param 0 g.row.R) c.type_bounds.sync-R) (shr_sync _ _ _ Heap.sync)
    (shr_sync _ _ _ (RuledLock.the_sync (Yard.the_row H T R D g.H.Host g.H.Reading.ReadPart g.H.Draft.WritePart g.T.Tool) Charter.the_row JournalEntry.the_row
    (ghosts H T R D g.H.Host no_dict g.H.Reading.ReadPart no_dict g.H.Draft.WritePart no_dict g.T.Tool no_dict no_dict no_dict) yard))
    (shr_sync _ _ _ copy)))
