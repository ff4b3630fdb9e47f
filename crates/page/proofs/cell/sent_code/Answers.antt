-- `page::cell::sent_code` meets its contract.
use borrow.Author.Tests.{le-leb, lt-leb}
use Rattle.page.proofs.KindLaws.{is_text}
use Rattle.page.proofs.cell.sent_code.Goals as goal
use Rattle.page.proofs.cell.sent_code.Goals.{else-eq-via-then-eq+then-code-ge32+else-code-le126, else-eq-via-then-eq+else-code-ge32, else-eq-via-else-eq}

pub returns-then-code-le126 : goal.returns-then-code-le126
returns-then-code-le126 c =
    rw (
      ← c.code_of-code.ensures,
      is_text c.kind_of.result c.kind_of.ensures c.eq.ensures c.if-eq.true,
      le-leb _ _ c.if-code-ge32.true,
      le-leb _ _ c.if-code-le126.true,
    )

pub returns-else-eq : goal.returns-else-eq
returns-else-eq c =
    elim c.else-eq.branch [
      | else-eq-via-then-eq+then-code-ge32+else-code-le126 w ↦
          rw (← c.code_of-code.ensures, is_text c.kind_of.result c.kind_of.ensures c.eq.ensures w.if-eq.true, le-leb _ _ w.if-code-ge32.true, lt-leb _ _ w.if-code-le126.false)
      | else-eq-via-then-eq+else-code-ge32 w ↦ rw (← c.code_of-code.ensures, is_text c.kind_of.result c.kind_of.ensures c.eq.ensures w.if-eq.true, lt-leb _ _ w.if-code-ge32.false)
      | else-eq-via-else-eq w ↦ rw (is_text c.kind_of.result c.kind_of.ensures c.eq.ensures w.if-eq.false)
    ]
