use Rattle.std.proofs.Common.{◌≡◌, ◌≢◌, ◌∙◌, sym, ap, ℕ, ◌⊎◌, inl, inr, List, map, arith, below_more}
use Rattle.std.proofs.lemmas.Bool.{cases_eq}
use Rattle.std.proofs.lemmas.List.{ext_get_or, length-map}
use Rattle.std.proofs.Math.ListN.{get_or-map}
use Rattle.cap_format.specs.declared.cap.Cap.{Cap}
use Rattle.cap_format.specs.Made.{null}
use Rattle.cap_format.specs.Moves.{moved}
use Rattle.machine_types.specs.Registers.{register}
use Rattle.trap_syscalls.proofs.forks.moved_registers.Goals as goal

-- register 0 is null in both files, and null moves to itself
zero-moved : (child regs : List Cap) (n from to : ℕ) → n ≡ 0 → register child 0 ≡ null → register regs 0 ≡ null → register child n ≡ moved (register regs n) from to
zero-moved child regs n from to e a b = rw e (a ∙ ap (λ (r : Cap). moved r from to) (sym b))

pub loop-n-preserved : goal.loop-n-preserved
loop-n-preserved c = record {
  file = c.put.ensures.whole;
  done = below_more _ _ (λ k less. c.put.ensures.others k (λ e. absurd (omega arith)) ∙ c.loop-n.invariant.done k less) here;
}
  where
    regs : List Cap
    regs = c.args.regs.now

    here : register c.put.new.self c.loop-n.n ≡ moved (register regs c.loop-n.n) c.args.from c.args.to
    here = by (cases_eq c.loop-n.n 0)
      where
        by : (c.loop-n.n ≡ 0) ⊎ (c.loop-n.n ≢ 0) → register c.put.new.self c.loop-n.n ≡ moved (register regs c.loop-n.n) c.args.from c.args.to
        by (inl e) = zero-moved c.put.new.self regs c.loop-n.n c.args.from c.args.to e c.put.ensures.whole.zero c.requires.file.zero
        by (inr e) = c.put.ensures.given (omega arith) ∙ c.moved.ensures.is ∙ ap (λ (r : Cap). moved r c.args.from c.args.to) c.get.ensures.value

pub returns : goal.returns
returns c =
    let regs = c.args.regs.now in
    let f = λ (r : Cap). moved r c.args.from c.args.to in
    let file = c.loop-n.invariant.file in
    ext_get_or null c.loop-n.child (map f regs) (file.length_is ∙ sym (length-map regs f ∙ c.requires.file.length_is))
    (λ k less. c.loop-n.invariant.done k (let l = file.length_is in omega arith) ∙ sym (get_or-map f regs k null))
