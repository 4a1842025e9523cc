-- `strides::checkpoint_stride` meets its contract: by the cases of the work. Assumes nothing.
use mathlib.Core.Bool.{true}
use mathlib.Core.Logic.{inl, inr}
use mathlib.Core.Path.{◌≡◌, subst}
use Rattle.model.specs.Frame.{work_ok}
use Rattle.model.specs.declared.Work.{Work}
use Rattle.strides.proofs.Within.{work_next}
use Rattle.strides.proofs.Carried.{stride_first, stride_page, stride_format, stride_reclaim}
use Rattle.strides.proofs.checkpoint_stride.Goals as goal

pub page_stride-requires : goal.page_stride-requires
page_stride-requires c =
    let a = c.args in
    work_next a.s a.array.now a.map.now c.requires.0 c.requires.1.0 _ (subst (λ (w : Work). work_ok a.s a.array.now w ≡ true) c.in-Checkpoint.is c.requires.1.1)

pub returns-in-Idle : goal.returns-in-Idle
returns-in-Idle c = stride_first c.args.s c.args.array.now c.args.map.now _ _ _ _ _ c.in-Idle.is c.first_stride.ensures

pub returns-in-Format : goal.returns-in-Format
returns-in-Format c =
    let a = c.args in
    let r = c.refused in
    rw (r.ensures.0, r.ensures.1) (elim c.in-Format.is [ inl e ↦ stride_format a.s a.array.now a.map.now _ _ e.1 | inr e ↦ stride_reclaim a.s a.array.now a.map.now _ e ])

pub returns-in-Checkpoint : goal.returns-in-Checkpoint
returns-in-Checkpoint c = stride_page c.args.s c.args.array.now c.args.map.now _ _ _ _ _ _ c.in-Checkpoint.is c.page_stride.ensures
