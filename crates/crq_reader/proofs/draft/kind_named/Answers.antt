use Rattle.crq_reader.proofs.KindLaws.{kind_found}
use Rattle.crq_reader.proofs.draft.kind_named.Goals as goal

pub returns : goal.returns
returns c = kind_found c.args.word.now c.from_word.result c.from_word.ensures.word c.from_word.ensures.none
