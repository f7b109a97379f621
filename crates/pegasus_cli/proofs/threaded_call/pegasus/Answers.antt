use Rattle.pegasus_cli.proofs.HeadlineLemmas.{holds, joint_holds}
use Rattle.pegasus_cli.proofs.threaded_call.pegasus.Goals as goal

pub returns-then-threaded-clause-headline : goal.returns-then-threaded-clause-headline
returns-then-threaded-clause-headline g c = holds _ _ c.in_threads.ensures.answered

pub returns-else-threaded-clause-headline : goal.returns-else-threaded-clause-headline
returns-else-threaded-clause-headline g c = holds _ _ c.quick.ensures.answered

pub returns-then-threaded-clause-joint : goal.returns-then-threaded-clause-joint
returns-then-threaded-clause-joint g c = joint_holds _ _ c.in_threads.ensures.answered

pub returns-else-threaded-clause-joint : goal.returns-else-threaded-clause-joint
returns-else-threaded-clause-joint g c = joint_holds _ _ c.quick.ensures.answered
