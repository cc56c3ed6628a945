-- Lines that were worked out by hand.
use Rattle.std.specs.Prelude.{◌≡◌, flat_map, [], ◌∷◌, ◌++◌, codes}
use Rattle.cap_format.specs.declared.image.ImageReason.TheVariants as image
use Rattle.asm_text.specs.declared.source.SourceReason.TheVariants as source
use Rattle.ufork_program.specs.Lines.{usage_line, cannot_read_line, reason_text, image_refused_line, source_reason_text, source_refused_line, schedule_refused_line, input_failed_line, input_too_long_line, frames_lacked_line, image_line}

-- Each line is what was worked out.
pub record WorkedLinesHold : Type 0 where
  pub usage : usage_line 3 ≡ codes "ufork: usage: word 3\n"
  pub cannot_read : cannot_read_line (codes "a.img") ≡ codes "ufork: cannot read a.img\n"
  pub image_refused : image_refused_line (record { reason = image.Overlap; place = 136 }) ≡ codes "ufork: image refused: Overlap at 136\n"
  pub image_reasons : flat_map (λ reason. reason_text reason ++ codes " ")
      (image.TooLong ∷ image.Truncated ∷ image.BadMagic ∷ image.BadHeader ∷ image.UnknownType ∷ image.BadFlags ∷ image.BadAddress ∷ image.BadSize ∷ image.Overlap
      ∷ image.SecondTable ∷ image.FileRange ∷ image.NoSegment ∷ image.BadEntry ∷ image.BadPlace ∷ image.BadBounds ∷ image.BadOffset ∷ image.BadPerms ∷ [])
      ≡ codes "TooLong Truncated BadMagic BadHeader UnknownType BadFlags BadAddress BadSize Overlap SecondTable FileRange NoSegment BadEntry BadPlace BadBounds BadOffset BadPerms "
  pub schedule_refused : schedule_refused_line 2 ≡ codes "ufork: schedule refused: line 2\n"
  pub input_failed : input_failed_line ≡ codes "ufork: input failed\n"
  pub input_too_long : input_too_long_line ≡ codes "ufork: input too long\n"
  pub frames_lacked : frames_lacked_line 2 1 ≡ codes "ufork: image needs 2 pages, 1 frames\n"
  pub source_refused : source_refused_line (record { line = 2; reason = source.OutOfRange }) ≡ codes "ufork: source refused: line 2: OutOfRange\n"
  pub source_reasons : flat_map (λ reason. source_reason_text reason ++ codes " ")
      (source.TooLong ∷ source.BadText ∷ source.BadStatement ∷ source.NoSegment ∷ source.BadSegment ∷ source.TooMany ∷ source.BadAlign ∷ source.AfterBss
      ∷ source.Misplaced ∷ source.TooLarge ∷ source.Empty ∷ source.Twice ∷ source.UnknownLabel ∷ source.OutOfRange ∷ source.BadCap ∷ source.NoEntry ∷ [])
      ≡ codes "TooLong BadText BadStatement NoSegment BadSegment TooMany BadAlign AfterBss Misplaced TooLarge Empty Twice UnknownLabel OutOfRange BadCap NoEntry "
  pub image : image_line 2 3 4100 ≡ codes "image 2 pages 3 relocations entry 4100\n"
