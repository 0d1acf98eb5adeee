-- A step that tells, and changes nothing.
use Rattle.crq_rule.specs.declared.view.Caller.{Caller}

-- a step that changes nothing of what its caller knows
abbrev pub stays : Caller → Caller
stays p = p
