use Rattle.std.proofs.Common.{◌≡◌, ◌∙◌, not, refl, ap}
use Rattle.cap_format.specs.Rights.{allows, holds}
use Rattle.contents.specs.Transfers.{covers_of}
use Rattle.machine.specs.Calls.{permission_of}
use Rattle.trap_syscalls.proofs.TransferLemmas.{and-true, and-false, as-compared, load-permission, store-permission, is_plain, has_right, reaches, no-fault}
use Rattle.trap_syscalls.proofs.transfers.may_transfer.Goals as goal
use Rattle.trap_syscalls.proofs.transfers.may_transfer.Goals.{in-Read, in-Write, then-pointer, else-pointer, then-not-is_entry, else-not-is_entry, then-allows, else-allows}

pub returns-then-holds-clause-is : goal.returns-then-holds-clause-is
returns-then-holds-clause-is g c p d is stands =
    let call = c.args.call.now in
    let access = c.args.access in
    let permission : c.match-access.permission ≡ permission_of access =
    elim c.match-access.branch [ in-Read w ↦ load-permission _ _ w.in-Read.is w.permission-is | in-Write w ↦ store-permission _ _ c.requires.transfer w.in-Write.is w.permission-is ] in
    let plain : c.if-pointer.value ≡ is_plain call =
    elim c.if-pointer.branch [ then-pointer w ↦ and-true _ _ _ w.if-pointer.true (w.value-is ∙ ap not (as-compared _ _ _ w.is_entry.ensures)) | else-pointer w ↦ and-false _ _ _ w.if-pointer.false w.value-is ] in
    let right : c.if-not-is_entry.value ≡ has_right call access =
    rw (← plain) (elim c.if-not-is_entry.branch [ then-not-is_entry w ↦ and-true _ _ _ w.if-not-is_entry.true (w.value-is ∙ w.allows.ensures ∙ ap (allows call.pointer.bits) permission) | else-not-is_entry w ↦ and-false _ _ _ w.if-not-is_entry.false w.value-is ]) in
    let reached : c.if-allows.value ≡ reaches call access =
    rw (← right) (elim c.if-allows.branch [ then-allows w ↦ and-true _ _ _ w.if-allows.true (w.value-is ∙ w.holds.ensures ∙ ap (λ a. holds call.pointer.bits a call.count) w.address.ensures) | else-allows w ↦ and-false _ _ _ w.if-allows.false w.value-is ]) in
    rw (no-fault p d access call call.slot is, ← reached)
    (and-true _ _ _ c.if-holds.true (c.covers.ensures.answer d stands ∙ ap (λ at. covers_of d call.region at call.count access) c.place_of.ensures))

pub returns-else-holds-clause-is : goal.returns-else-holds-clause-is
returns-else-holds-clause-is g c p d is stands =
    let call = c.args.call.now in
    let access = c.args.access in
    let permission : c.match-access.permission ≡ permission_of access =
    elim c.match-access.branch [ in-Read w ↦ load-permission _ _ w.in-Read.is w.permission-is | in-Write w ↦ store-permission _ _ c.requires.transfer w.in-Write.is w.permission-is ] in
    let plain : c.if-pointer.value ≡ is_plain call =
    elim c.if-pointer.branch [ then-pointer w ↦ and-true _ _ _ w.if-pointer.true (w.value-is ∙ ap not (as-compared _ _ _ w.is_entry.ensures)) | else-pointer w ↦ and-false _ _ _ w.if-pointer.false w.value-is ] in
    let right : c.if-not-is_entry.value ≡ has_right call access =
    rw (← plain) (elim c.if-not-is_entry.branch [ then-not-is_entry w ↦ and-true _ _ _ w.if-not-is_entry.true (w.value-is ∙ w.allows.ensures ∙ ap (allows call.pointer.bits) permission) | else-not-is_entry w ↦ and-false _ _ _ w.if-not-is_entry.false w.value-is ]) in
    let reached : c.if-allows.value ≡ reaches call access =
    rw (← right) (elim c.if-allows.branch [ then-allows w ↦ and-true _ _ _ w.if-allows.true (w.value-is ∙ w.holds.ensures ∙ ap (λ a. holds call.pointer.bits a call.count) w.address.ensures) | else-allows w ↦ and-false _ _ _ w.if-allows.false w.value-is ]) in
    rw (no-fault p d access call call.slot is, ← reached)
    (and-false _ _ _ c.if-holds.false refl)
