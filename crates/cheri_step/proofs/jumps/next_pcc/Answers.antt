use Rattle.cheri_step.specs.Results.{next_pcc}
use Rattle.cheri_step.proofs.Derivations.{derives-next, derived-inside}
use Rattle.cheri_step.proofs.StillSealed.{next-on}
use Rattle.cheri_step.proofs.Standing.{next-code}
use Rattle.cheri_step.proofs.jumps.next_pcc.Goals as goal

pub returns-clause-code : goal.returns-clause-code
returns-clause-code c = rw (c.standing_at.ensures, c.address.ensures) (next-code c.args.pcc c.requires.code c.requires.held c.requires.fits)

pub returns-clause-inside : goal.returns-clause-inside
returns-clause-inside c region inside =
    let code = next-code c.args.pcc c.requires.code c.requires.held c.requires.fits in
    rw (c.standing_at.ensures, c.address.ensures) (derived-inside region c.args.pcc (next_pcc c.args.pcc) (derives-next c.args.pcc) (λ tagged. inside) code.tagged)

pub returns-clause-address : goal.returns-clause-address
returns-clause-address c = rw (c.standing_at.ensures, c.address.ensures) (next-on c.args.pcc c.requires.fits)
