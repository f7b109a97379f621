use Rattle.std.proofs.Common.{rules, ◌≡◌, Some, ap, ◌∙◌}
use Rattle.ruled_lock.proofs.StepLemmas.{looks}
use Rattle.ruled_lock.proofs.LockLemmas.{one_left, found_is, got, took}
use Rattle.ruled_lock.proofs.lock.RuledLock.wait_for_turn.Goals as goal

pub load-served-requires : goal.load-served-requires
load-served-requires g c = let i = c.loop.invariant.1 in (search rules, search rules, looks _ _ _ _ _ _ _ i.0 (ap (λ m. m.0.stage) i.2) (ap (λ m. m.1) i.2))

pub exchange-value-requires : goal.exchange-value-requires
exchange-value-requires g c =
    let h = got g.C.Chronicle.charter g.C.Chronicle.journal g.C.Chronicle.author c.args.seat.now.me.0 c.wait_for_ticket-ticket.result c.load-served.result c.loop.seat.me c.load-served.new.seat.me c.loop.invariant.1 c.load-served.ensures.2 c.if-served-ticket.true in
    (c.load-served.ensures.0 ∙ (c.loop.invariant.0 ∙ c.requires.of), (Some h.1.value, one_left _ _ (ap (λ m. m.1) h.1.me)))

pub unreachable-requires : goal.unreachable-requires
unreachable-requires g c =
    let h = got g.C.Chronicle.charter g.C.Chronicle.journal g.C.Chronicle.author c.args.seat.now.me.0 c.wait_for_ticket-ticket.result c.load-served.result c.loop.seat.me c.load-served.new.seat.me c.loop.invariant.1 c.load-served.ensures.2 c.if-served-ticket.true in
    let is : c.exchange-value.result ≡ Some h.1.value = found_is _ _ _ (ap (λ m. m.1) h.1.me) c.exchange-value.ensures.2 in
    c.in_default.not-Some h.1.value is

pub returns-then-served-ticket : goal.returns-then-served-ticket
returns-then-served-ticket g c =
    let h = got g.C.Chronicle.charter g.C.Chronicle.journal g.C.Chronicle.author c.args.seat.now.me.0 c.wait_for_ticket-ticket.result c.load-served.result c.loop.seat.me c.load-served.new.seat.me c.loop.invariant.1 c.load-served.ensures.2 c.if-served-ticket.true in
    let t = took g.C.Chronicle.charter g.C.Chronicle.journal g.C.Chronicle.author c.args.seat.now.me.0 c.exchange-value.result c.in-Some-value.value c.load-served.new.seat.me c.exchange-value.new.seat.me h c.exchange-value.ensures.2 c.in-Some-value.is c.exchange-value.ensures.3 in
    record { of = c.exchange-value.ensures.0 ∙ (c.load-served.ensures.0 ∙ c.loop.invariant.0); turn = t.0; charter = t.1; seen = t.2; mine = t.3 }
