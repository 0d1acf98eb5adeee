use Rattle.crq_base.proofs.WordLaws.{link_read}
use Rattle.crq_base.proofs.words.Link.from_word.Goals as goal

pub returns : goal.returns
returns c = link_read c.args.word c.from_number.result c.requires c.from_number.ensures
