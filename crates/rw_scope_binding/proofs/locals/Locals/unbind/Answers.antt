-- The table gets back what the unbound name had hidden; that name stands there, so nothing new is put in.
use Rattle.rw_scope_binding.proofs.Popped.{unbound, never_absent}
use Rattle.rw_scope_binding.proofs.locals.Locals.unbind.Goals as goal

pub invariant_of-self : goal.invariant_of-self
invariant_of-self c =
    unbound c.self.inside.latest c.put.new.self c.self.inside.binders.items c.pop.new.self.items c.in-Some.field-0 c.self.invariant c.in-Some.ensures.items
    (λ x. let told = c.in_ok-put.ensures.told x in cc)

pub invariant_of-self-in_err-put : goal.invariant_of-self-in_err-put
invariant_of-self-in_err-put c =
    absurd (never_absent c.self.inside.latest c.self.inside.binders.items c.pop.new.self.items c.in-Some.field-0 c.self.invariant c.in-Some.ensures.items
    (let absent = c.in_err-put.ensures.absent in cc))
