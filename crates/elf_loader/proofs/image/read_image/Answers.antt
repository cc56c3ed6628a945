use Rattle.std.proofs.Common.{◌≡◌, ◌∙◌, sym, ap}
use Rattle.cap_format.specs.Numbers.{file_header_bytes}
use Rattle.cap_format.specs.Image.{headers_of, headers_at}
use Rattle.elf_loader.specs.Loaded.{image_with}
use Rattle.elf_loader.proofs.Walks.{at-front, behind-front, none-of}
use Rattle.elf_loader.proofs.image.read_image.Goals as goal

pub returns-in-Some : goal.returns-in-Some
returns-in-Some c =
    let file = c.args.bytes.now in
    at-front file c.in-Some.fault (sym c.front_fault.ensures.is ∙ c.in-Some.is)

pub returns-in-Some-rest_fault : goal.returns-in-Some-rest_fault
returns-in-Some-rest_fault c =
    let file = c.args.bytes.now in
    let headers : c.list.result.now ≡ headers_of file = c.list.ensures ∙ c.read-headers.ensures ∙ ap (headers_at file file_header_bytes) (c.from-count.ensures ∙ c.u16_at.ensures) in
    behind-front file c.list.result.now headers (sym c.front_fault.ensures.is ∙ none-of c.front_fault.result c.in_default.not-Some) ∙ sym c.rest_fault.ensures.is ∙ c.in-Some-rest_fault.is

pub returns-in-Some-load : goal.returns-in-Some-load
returns-in-Some-load c =
    let file = c.args.bytes.now in
    let headers : c.list.result.now ≡ headers_of file = c.list.ensures ∙ c.read-headers.ensures ∙ ap (headers_at file file_header_bytes) (c.from-count.ensures ∙ c.u16_at.ensures) in
    let again : c.list-2.result.now ≡ headers_of file = c.list-2.ensures ∙ c.read-headers.ensures ∙ ap (headers_at file file_header_bytes) (c.from-count.ensures ∙ c.u16_at.ensures) in
    let image = behind-front file c.list.result.now headers (sym c.front_fault.ensures.is ∙ none-of c.front_fault.result c.in_default.not-Some)
    ∙ sym c.rest_fault.ensures.is ∙ none-of c.rest_fault.result c.in_default-rest_fault.not-Some in
    (image, c.in-Some-load.ensures ∙ ap (image_with file) again)

pub returns-in-None : goal.returns-in-None
returns-in-None c =
    let file = c.args.bytes.now in
    let headers : c.list.result.now ≡ headers_of file = c.list.ensures ∙ c.read-headers.ensures ∙ ap (headers_at file file_header_bytes) (c.from-count.ensures ∙ c.u16_at.ensures) in
    behind-front file c.list.result.now headers (sym c.front_fault.ensures.is ∙ none-of c.front_fault.result c.in_default.not-Some)
    ∙ sym c.rest_fault.ensures.is ∙ none-of c.rest_fault.result c.in_default-rest_fault.not-Some
