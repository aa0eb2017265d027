use Rattle.std.proofs.Common.{◌≡◌, ◌<◌, suc, ◌-◌, length, get_or, sym, ◌∙◌, ap, refl, arith}
use Rattle.std.proofs.lemmas.List.{get_or_default}
use Rattle.r2d2_core.proofs.Recording.Auditing.{Rises, twice_in, apart_in}
use Rattle.r2d2_core.proofs.journal.replaying.are_apart.Goals as goal

pub returns-then-index-clause-apart : goal.returns-then-index-clause-apart
returns-then-index-clause-apart g c =
    let xs = c.args.ids.now.items in
    let ys = c.sort_unstable.new.self.items in
    let k = c.loop-place.place - 1 in
    let within : suc k < length ys = omega (arith, c.loop-place-test.true, c.len-place-end.ensures, c.sort_unstable.new.self.ok.0, c.loop-place.auto.place) in
    let there : c.loop-place.place ≡ suc k = omega (arith, c.loop-place.auto.place) in
    let first : get_or ys k 0 ≡ c.index.result.now = sym (c.index.ensures ∙ get_or_default ys k c.index.result.now 0 (omega (arith, within))) in
    let second : c.index-in-loop-place.result.now ≡ get_or ys (suc k) 0 = c.index-in-loop-place.ensures
    ∙ (get_or_default ys c.loop-place.place c.index-in-loop-place.result.now 0 (omega (arith, within, there)) ∙ ap (λ n. get_or ys n 0) there) in
    (λ h. absurd cc, λ apart. absurd (twice_in xs ys k c.sort_unstable.ensures.permutation within (first ∙ (c.if-index.true ∙ second)) apart))

pub returns-clause-apart : goal.returns-clause-apart
returns-clause-apart g c =
    let ys = c.sort_unstable.new.self.items in
    let long : length ys ≡ c.len-place-end.result = sym (c.len-place-end.ensures ∙ c.sort_unstable.new.self.ok.0) in
    let rises : Rises ys = λ j lt. c.loop-place.invariant.rises j (omega (arith, lt, long, c.loop-place-test.false)) in
    (λ _. apart_in c.args.ids.now.items ys c.sort_unstable.ensures.permutation rises, λ _. refl)
