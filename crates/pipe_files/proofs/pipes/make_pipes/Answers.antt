use Rattle.std.proofs.Common.{◌≡◌, subst, ◌+◌, ℕ, List, arith, rules}
use Rattle.pipe_files.specs.declared.pipes.Pipe.{Pipe}
use Rattle.pipe_files.specs.Made.{AreMade}
use Rattle.pipe_files.proofs.MadePipes.{made-none, made-more}
use Rattle.pipe_files.proofs.pipes.make_pipes.Goals as goal

pub loop-number-init : goal.loop-number-init
loop-number-init c = record { made = subst (λ (ps : List Pipe). AreMade c.args.descriptions.now c.args.descriptions.now 0 ps) (search rules) (made-none c.args.descriptions.now); room = search rules }

pub make_pipe-requires : goal.make_pipe-requires
make_pipe-requires c = let count = c.loop-number.invariant.made.added.count in let capacity = c.loop-number.invariant.made.added.capacity in let room = c.requires in omega arith

pub loop-number-preserved : goal.loop-number-preserved
loop-number-preserved c =
    let before = c.loop-number.invariant.made in
    record {
      made = subst (λ (ps : List Pipe). AreMade c.args.descriptions.now c.make_pipe.new.descriptions (c.loop-number.number + 1) ps) (search rules) (made-more c.args.descriptions.now c.loop-number.descriptions c.make_pipe.new.descriptions c.loop-number.number c.loop-number.pipes.items c.in_ok-pipe.pipe before c.in_ok-pipe.ensures);
      room = let room = c.loop-number.invariant.room in let same = c.push.ensures.capacity in omega arith;
    }

pub returns : goal.returns
returns c = let end : c.loop-number.number ≡ 16 = omega arith in subst (λ (n : ℕ). AreMade c.args.descriptions.now c.loop-number.descriptions n c.loop-number.pipes.items) end c.loop-number.invariant.made
