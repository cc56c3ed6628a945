use Rattle.elf_loader.proofs.StartedContents.{LawsBelow, started-store, started-others, started-classes, started-setting, started-owned, started-rights, started-entry, started-absent, started-bytes, started-seen, started-untagged, started-used}
use Rattle.elf_loader.proofs.laws.starts_are_exact.Goals as goal

pub returns : goal.returns
returns c =
    let laws : LawsBelow = record {
      images = c.images_are_sound.ensures;
      exact = c.relocations_are_exact.ensures;
      made = c.pages_are_made.ensures;
      numbers = c.numbers_are_bytes.ensures;
      keep = c.calls_keep_whole.ensures;
      stays = c.all_else_stays.ensures;
      written = c.writes_are_read.ensures;
      regions = c.regions_are_kept.ensures;
    } in
    record {
      rights = λ file d segment n may. started-rights laws file d may segment n;
      absent = λ file d page may. started-absent laws file d may page;
      bytes = λ file d segment k may. started-bytes laws file d may segment k;
      capabilities = λ file d reloc may. started-seen laws file d may reloc;
      untagged = λ file d page g cap may. started-untagged laws file d may page g cap;
      entry = λ file d may. started-entry laws file d may;
      own = λ file d page may. (started-owned laws file d may).own page;
      used = λ file d may. started-used laws.images file d may.image;
      whole = λ file d may. (started-owned laws file d may).whole;
      store = started-store c.regions_are_kept.ensures;
      others = started-others c.other_stores_stay.ensures;
      classes = started-classes;
      setting = started-setting c.settings_stay.ensures;
    }
