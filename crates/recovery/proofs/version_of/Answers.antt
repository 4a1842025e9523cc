-- `recovery::version_of` meets its contract: the version is handed on, or read from the page. Assumes nothing.
use mathlib.Core.Path.{ap, ◌∙◌}
use Rattle.model.specs.Bytes.{le32}
use Rattle.model.specs.Page.{page_at}
use Rattle.recovery.proofs.Fields.{field_ver}
use Rattle.recovery.proofs.version_of.Goals as goal

pub returns-in-None : goal.returns-in-None
returns-in-None c =
    let a = c.args in
    rw c.in-None.is (c.word32.ensures ∙ ap (λ q. le32 q 520) (c.page_of.ensures.0 ∙ ap (page_at a.array.now) c.from.ensures) ∙ field_ver a.array.now a.k)
