-- `repaint::painter::is_all_text` meets its contract.
use Rattle.std.proofs.Common.{rules, tests}
use Rattle.std.proofs.lemmas.Iterator.{YieldsList-from_slice}
use Rattle.std.proofs.lemmas.Iterator.Search.{all_from_yields_List}
use mathlib.Core.Path.{◌∙◌}
use Rattle.repaint.specs.Proposal.{is_text}
use Rattle.repaint.proofs.Forwards.{text_each}
use Rattle.repaint.proofs.painter.is_all_text.Goals as goal

pub returns : goal.returns
returns c =
    let x = c.args in
    all_from_yields_List (is_text x.personality) _ _ _ c.all.ensures.ran (YieldsList-from_slice x.page.now cc) (λ v b q k. search (rules, tests)) ∙ text_each x.personality x.page.now
