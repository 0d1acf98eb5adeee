-- The invariant that every step keeps.
use Rattle.crq_rule.specs.Core.{Core}
use Rattle.crq_rule.specs.Parts.{ground_of, Spelled, Reading, Finds, Guards, Holders, Cutting, Stamps, Chains, Cover}
use Rattle.crq_rule.specs.ListParts.{Sizes, Dues, Heads, Sorted, Marks, Standing, Copying, Lanes, Writing, Naming}
use Rattle.crq_rule.specs.Steady.{Steady}
use Rattle.crq_rule.specs.HistoryParts.{Carriers, Told, Numbers, Settling, Present, Takes, Walkers}
use Rattle.crq_rule.specs.Bounds.{Bounds}
use Rattle.crq_rule.specs.Helping.{Helps}
use Rattle.crq_rule.specs.Copies.{Rows, Copies, Rooms, Bare, Unlinked}
use Rattle.crq_rule.specs.Ahead.{Ahead}
use Rattle.crq_rule.specs.Ending.{Ending, Ends}
use Rattle.crq_rule.specs.ScarceParts.{Scarce, Refusals, Swept}

-- what the facts of takes are stated over
abbrev pub present_of : Core → Present
present_of c = record { workers = c.start.layout.workers; generation = c.words.control.generation; current = c.words.current; history = c.history; settling = c.settling }

abbrev pub takes_of : Core → Takes
takes_of c = record { begun = c.begun; read = c.read; sight = c.sight; walk = c.walk; rows = c.rows }

-- what the facts of copies are stated over
abbrev pub rows_of_core : Core → Rows
rows_of_core c = record { layout = c.start.layout; link = c.words.link; twin = c.words.twin; event = c.words.event; holding = c.holding; copying = c.copying }

-- what the facts of a move's end are stated over
abbrev pub ending_of : Core → Ending
ending_of c = record { start = c.start; control = c.words.control; shape = c.shape; head = c.words.head; current = c.words.current; pin = c.words.pin; sight = c.sight; walk = c.walk; help = c.help }

pub record Inv (c : Core) : Type 0 where
  pub spelled : Spelled c.start.layout c.words.control c.words.current c.words.pin c.words.head c.words.link c.words.twin c.words.event
  pub reading : Reading c.start.layout.workers c.words.epoch c.epochs c.tick c.cut
  pub finds : Finds c.start c.words.control c.shape c.words.current c.found c.sight
  pub guards : Guards c.start.layout.workers c.words.epoch c.words.announced c.guard c.tick
  pub holders : Holders c.start.layout c.hand c.cut c.chain c.holding
  pub cutting : Cutting c.start.layout.workers c.guard c.cut
  pub stamps : Stamps c.start.layout c.words.epoch c.words.stamp c.ripening c.holding
  pub chains : Chains c.words.head c.words.link c.words.twin c.chain
  pub cover : Cover (ground_of c) c.cut c.holding
  pub sizes : Sizes c.start c.words.control c.shape c.words.head c.words.link c.holding
  pub dues : Dues c.start.layout.workers c.words.control c.shape c.settling c.copying c.named
  pub steady : Steady c.start c.words.control c.words.link c.holding c.named
  pub heads : Heads c.words.control c.shape c.words.head
  pub sorted : Sorted c.shape c.words.head c.words.link c.words.event c.chain
  pub marks : Marks c.start.layout c.words.control c.words.head c.words.link c.words.twin c.holding
  pub standing : Standing c.start.layout.workers c.words.head c.words.link c.words.twin c.words.event c.rows
  pub copying : Copying c.start.layout.workers c.words.head c.words.link c.words.twin c.words.event c.old
  pub lanes : Lanes c.start.layout c.shape (ground_of c) c.words.event
  pub writing : Writing c.start.layout.workers c.words.link c.words.twin c.words.event c.hand c.written
  pub naming : Naming c.start.layout c.words.head c.words.link c.words.event c.named c.holding
  pub carriers : Carriers c.start.layout c.history c.words.link c.words.twin c.words.event c.holding
  pub told : Told c.start.layout.workers c.history c.deal c.own c.begun
  pub numbers : Numbers c.start.layout.workers c.history c.told
  pub settling : Settling c.start.layout.workers c.history c.settling
  pub walkers : Walkers (present_of c) (takes_of c) c.words.link c.words.event
  pub ahead : Ahead c.history c.words.current
  pub bounds : Bounds c.start c.words.control c.words.current c.words.pin c.history c.settling c.permit
  pub scarce : Scarce c.start.layout c.words.epoch c.history c.base c.guard c.holding
  pub refusals : Refusals c.start.layout.workers c.history c.refused
  pub swept : Swept c.start.layout c.history c.words.event c.chain c.sweep c.clean
  pub helps : Helps c.start.layout.workers c.words.control c.words.head c.found c.help
  pub copies : Copies (rows_of_core c) (ground_of c)
  pub rooms : Rooms c.start.layout.workers c.copying c.named
  pub bare : Bare c.words.control c.shape c.words.head c.chain
  pub unlinked : Unlinked c.start.layout.workers c.history c.old
  pub ends : Ends (ending_of c)
