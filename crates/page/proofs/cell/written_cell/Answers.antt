-- `page::cell::written_cell` meets its contract.
use Rattle.page.specs.Kind.{kind_number}
use Rattle.page.proofs.cell.written_cell.Goals as goal

pub returns-in-Text : goal.returns-in-Text
unfolding kind_number
returns-in-Text c = rw c.in-Text.is c.make.ensures

pub returns-in-Attribute : goal.returns-in-Attribute
unfolding kind_number
returns-in-Attribute c = rw c.in-Attribute.is c.make-in-Attribute.ensures

pub returns-in-Graphic : goal.returns-in-Graphic
unfolding kind_number
returns-in-Graphic c = rw c.in-Graphic.is c.make-in-Graphic.ensures
