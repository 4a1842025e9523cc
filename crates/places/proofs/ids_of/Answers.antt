-- `places::ids_of` meets its contract: each number is the identifier of its place (`made_at`). Assumes nothing.
use Rattle.std.proofs.Common.{◌≡◌, ◌<◌, rules, sym, ◌∙◌, get_or, length, arith}
use Rattle.std.proofs.lemmas.Grind.{same_number_lists}
use Rattle.model.specs.Frame.{no_place}
use Rattle.places.proofs.Ids.{length_ids, ids_at, made_at}
use Rattle.places.proofs.ids_of.Goals as goal

pub returns : goal.returns
returns c =
    let ps = c.args.places.now in
    let e : length ps ≡ 8 = search rules in
    let r = c.from_fn.ensures.items in
    let all = r.long in
    same_number_lists _ _ (r.long ∙ sym (length_ids ps ∙ e)) (λ k h.
    let low : k < 8 = omega (arith, h, all) in
    let in_ps : k < length ps = omega (arith, low, e) in
    made_at _ (λ i. (get_or ps i no_place).id) _ _ (λ x y q t. search rules) 0 8 k r.each (omega arith) (omega (arith, low)) ∙ sym (ids_at ps k no_place in_ps))
