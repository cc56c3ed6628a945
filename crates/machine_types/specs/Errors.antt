-- The numbers of errors.
use Rattle.std.specs.Prelude.{ℕ}
use Rattle.machine_types.specs.declared.errno.Errno.{Errno}
use Rattle.machine_types.specs.declared.errno.Errno.TheVariants.{Ebadf, Echild, Eagain, Enomem, Efault, Enfile, Emfile, Epipe, Enosys}

abbrev pub error_number : Errno → ℕ
error_number Ebadf = 9
error_number Echild = 10
error_number Eagain = 11
error_number Enomem = 12
error_number Efault = 14
error_number Enfile = 23
error_number Emfile = 24
error_number Epipe = 32
error_number Enosys = 38
