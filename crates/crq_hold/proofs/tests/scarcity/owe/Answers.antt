use Rattle.crq_hold.proofs.tests.scarcity.owe.Goals as goal

pub take-end-requires-clause-rests : goal.take-end-requires-clause-rests
take-end-requires-clause-rests c = (c.requires.other _ c.in-Some.is).rests
