-- What is answered where a file can't be opened or read.
use Rattle.std.specs.Prelude.{ℕ, List, Option, None, Result, Ok, Err}
use Rattle.std.specs.declared.io.ErrorKind.{ErrorKind}
use Rattle.std.specs.declared.io.ErrorKind.TheVariants.{NotFound, NotADirectory, InvalidFilename, OutOfMemory}
use Rattle.sp_io.specs.declared.traits.ModulesFault.{ModulesFault}
use Rattle.sp_io.specs.declared.traits.ModulesFault.TheVariants as fault

-- an error is a fault, or want of memory
abbrev pub unread : ErrorKind → ModulesFault
unread OutOfMemory = fault.NoMemory
unread kind = fault.Failed

-- there is no file where nothing stands at the path, where the path leads through a file as if that were a directory,
-- and where it is too long for the system; any other error is one of reading
abbrev pub unopened : ErrorKind → Result (Option (List ℕ)) ModulesFault
unopened NotFound = Ok None
unopened NotADirectory = Ok None
unopened InvalidFilename = Ok None
unopened kind = Err (unread kind)
