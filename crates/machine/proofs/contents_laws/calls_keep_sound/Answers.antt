use Rattle.std.proofs.Common.{[], ◌∷◌, arith}
use Rattle.machine.proofs.SoundParts.{parts-of, sound-by}
use Rattle.machine.proofs.AddedClasses.{nothing-parts, begin-parts, add_page-parts}
use Rattle.machine.proofs.EndedClasses.{end-parts}
use Rattle.machine.proofs.TouchedClasses.{read-parts, read_cap-parts, fetch-parts, prepare-parts}
use Rattle.machine.proofs.WrittenClasses.{seed_cap-parts, write-parts, write_cap-parts, write_bytes-parts}
use Rattle.machine.proofs.ForkedClasses.{fork-parts}
use Rattle.machine.proofs.contents_laws.calls_keep_sound.Goals as goal

pub returns : goal.returns
returns l n most =
    let law = l.pages_are_moved.ensures in
    let whole = l.calls_keep_whole.ensures in
    record {
      first = λ rule frames. sound-by n _ (whole.first rule frames) (nothing-parts n rule frames);
      begin = λ c region is none. sound-by n _ (whole.begin c region is.whole none) (begin-parts n c region none (parts-of n c is));
      end = λ c region is. sound-by n _ (whole.end c region is.whole) (end-parts n c region (parts-of n c is));
      add_page = λ c region page rights bytes is low within small lacks.
          let then = whole.add_page c region page rights bytes is.whole within lacks in
          sound-by n _ then (add_page-parts law n most c region page rights bytes low small lacks is.whole then (parts-of n c is));
      seed_cap = λ c region at cap is pattern may own.
          let then = whole.seed_cap c region at cap is.whole pattern may in
          sound-by n _ then (seed_cap-parts law n most c region at cap own is.whole then (parts-of n c is));
      read = λ c region at size low is. sound-by n _ (whole.read c region at size is.whole) (read-parts law n most region c at size (parts-of n c is));
      read_cap = λ c region at low is. sound-by n _ (whole.read_cap c region at is.whole) (read_cap-parts law n most region c at (parts-of n c is));
      fetch = λ c region at low is. sound-by n _ (whole.fetch c region at is.whole) (fetch-parts law n most region c at (parts-of n c is));
      write = λ c region at size v low is sized aligned.
          let then = whole.write c region at size v is.whole sized aligned in
          sound-by n _ then (write-parts law n most region low c at size v is.whole then (parts-of n c is));
      write_cap = λ c region at cap low is pattern may.
          let then = whole.write_cap c region at cap is.whole pattern may in
          sound-by n _ then (write_cap-parts law n most region low c at cap is.whole then (parts-of n c is));
      prepare = λ c region at count access low is. sound-by n _ (whole.prepare c region at count access is.whole) (prepare-parts law n most region c at count access (parts-of n c is));
      write_bytes = λ c region at bytes low is prepared.
          sound-by n _ (whole.write_bytes c region at bytes is.whole)
          (write_bytes-parts law n most (λ d region at byte is. whole.write_bytes d region at (byte ∷ []) is) c region at bytes low prepared is.whole (parts-of n c is));
      fork = λ c from to small low is none.
          sound-by n _ (whole.fork c from to is.whole (omega arith) (omega arith) none) (fork-parts law n most c from to small low is.whole none (parts-of n c is));
    }
