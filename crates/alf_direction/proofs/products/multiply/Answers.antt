-- The columns make the product.
use Rattle.std.proofs.Common.{◌+◌, ◌/◌, ◌*◌, ◌^◌, ◌∙◌, arith}
use lib.Bits.{and_mask}
use Rattle.alf_direction.proofs.Halves.{by_halves}
use Rattle.alf_direction.proofs.products.multiply.Goals as goal

pub returns : goal.returns
returns c =
    let a1 = c.high_half-a1.ensures in
    let a0 = c.low_half-a0.ensures in
    let b1 = c.high_half-b1.ensures in
    let b0 = c.low_half-b0.ensures in
    let first = c.times-first.ensures.0 ∙ (λ i. a0 i * b0 i) in
    let second = c.times.ensures.0 ∙ (λ i. a1 i * b0 i) in
    let third = c.times-2.ensures.0 ∙ (λ i. a0 i * b1 i) in
    let fourth = c.times-3.ensures.0 ∙ (λ i. a1 i * b1 i) in
    omega (
      arith,
      by_halves c.args.a c.args.b,
      first,
      second,
      third,
      fourth,
      and_mask c.times-first.result 16,
      and_mask (c.times.result + c.times-first.result / 2 ^ 16) 16,
    )
