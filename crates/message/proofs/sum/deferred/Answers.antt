use Rattle.std.proofs.Common.{◌≡◌, ◌+◌, ◌*◌, ◌/◌, arith, sym, ap, ◌∙◌, ℕ, List, [], get_or, length, length-drop, get_or-drop, drop, rules, Option}
use Rattle.std.specs.Prelude.{option_copied, unwrap_or}
use Rattle.message.specs.Datagrams.{ones_sum}
use Rattle.message.specs.Pieces.{carried_in}
use Rattle.message.proofs.Sums.{low_word, low_last, first_or, in_start}
use Rattle.message.proofs.sum.deferred.Goals.{After-map_or-odd}
use Rattle.message.proofs.sum.deferred.Goals as goal

pub loop-word-init : goal.loop-word-init
loop-word-init c = record {
  fits = omega arith;
  same = let e : c.args.start ≡ c.args.start + 256 * 0 = omega arith in
      ap (λ (n : ℕ). ones_sum n c.args.s.now) (sym (in_start c.args.start (omega arith)) ∙ ap carried_in e);
}

pub loop-word-preserved : goal.loop-word-preserved
loop-word-preserved c = record {
  fits = omega arith;
  same =
      let s = c.args.s.now in
      let w = c.from-sum.ensures ∙ c.from_le_bytes.ensures ∙ ap (λ (words : List (List ℕ)). get_or (get_or words c.loop-word.word-index []) 0 0 + get_or (get_or words c.loop-word.word-index []) 1 0 * 256) c.as_chunks.ensures.front in
      c.loop-word.invariant.same ∙ low_word c.args.start c.loop-word.sum c.loop-word.word-index c.from-sum.result s (omega arith) (λ k. omega (arith, c.type_inv.s k)) w;
}

odd_octet : (c : After-map_or-odd) → c.map_or-odd.result ≡ get_or c.as_chunks.result.1.now 0 0
odd_octet c =
    let e : c.map_or-odd.result ≡ unwrap_or (option_copied c.first.result) 0 = search rules in
    e ∙ ap (λ (o : Option ℕ). unwrap_or o 0) c.first.ensures.value ∙ first_or c.as_chunks.result.1.now

pub returns : goal.returns
returns c =
    let start = c.args.start in
    let sum = c.loop-word.sum in
    let s = c.args.s.now in
    let i = c.loop-word.word-index in
    let rest = drop (i * 2) s in
    let size = ap length c.as_chunks.ensures.back in
    let at : i ≡ length s / 2 = omega arith in
    let last : c.as_chunks.result.1.now ≡ rest = c.as_chunks.ensures.back ∙ ap (λ (k : ℕ). drop (k * 2) s) (sym at) in
    let odd : c.map_or-odd.result ≡ get_or rest 0 0 = odd_octet (goal.at.returns c).After-map_or-odd ∙ ap (λ (t : List ℕ). get_or t 0 0) last in
    let e = low_last start sum rest (omega (arith, length-drop (i * 2) s)) (rw get_or-drop (omega (arith, c.type_inv.s (i * 2 + 0)))) in
    c.swapped.ensures ∙ ap (λ (n : ℕ). carried_in (start + 256 * (sum + n))) odd ∙ sym (c.loop-word.invariant.same ∙ e)
