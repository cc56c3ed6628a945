-- The last digits of those that `hex` writes are put before the line.
use Rattle.std.proofs.Common.{◌≡◌, ◌∙◌, ap, ◌-◌, ◌++◌, take, drop}
use Rattle.std.proofs.lemmas.Result.{IfOk-at_ok}
use Rattle.text_line.specs.Texts.{hexadecimal}
use Rattle.text_line.proofs.Hexadecimals.{hexadecimal-lowest, bytes-written}
use Rattle.hex.specs.Hex.{encode_lower}
use Rattle.text_line.proofs.line.Line.put_hexadecimal.Goals as goal

pub returns : goal.returns
returns c =
    let written : c.encode_to_slice.new.output ≡ hexadecimal 32 c.args.n = IfOk-at_ok _ c.unwrap.ensures c.encode_to_slice.ensures.written ∙ ap encode_lower c.to_be_bytes.ensures ∙ bytes-written 16 c.args.n in
    c.put.ensures
    ∙ ap (λ digits. take (32 - (32 - c.args.count)) (drop (32 - c.args.count) digits) ++ c.args.self.now) written
    ∙ ap (λ digits. digits ++ c.args.self.now) (hexadecimal-lowest c.args.count 32 c.args.n c.requires.few)
