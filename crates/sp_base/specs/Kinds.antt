-- The words and numbers of the kinds.
use Rattle.std.specs.Prelude.{ℕ, List, codes}
use Rattle.sp_base.specs.declared.kinds.MKind.{MKind}
use Rattle.sp_base.specs.declared.kinds.MKind.TheVariants as module_kind
use Rattle.sp_base.specs.declared.kinds.PKind.{PKind}
use Rattle.sp_base.specs.declared.kinds.PKind.TheVariants as run_kind
use Rattle.sp_base.specs.declared.kinds.BKind.{BKind}
use Rattle.sp_base.specs.declared.kinds.BKind.TheVariants as batch_kind

abbrev pub module_kind_name : MKind → List ℕ
module_kind_name module_kind.NotText = codes "NotText"
module_kind_name module_kind.BadToken = codes "BadToken"
module_kind_name module_kind.Unexpected = codes "Unexpected"
module_kind_name module_kind.TooLarge = codes "TooLarge"
module_kind_name module_kind.ModuleNotFound = codes "ModuleNotFound"
module_kind_name module_kind.ModuleTwice = codes "ModuleTwice"
module_kind_name module_kind.NameTwice = codes "NameTwice"
module_kind_name module_kind.UnknownName = codes "UnknownName"
module_kind_name module_kind.TypeMismatch = codes "TypeMismatch"
module_kind_name module_kind.NotAssignable = codes "NotAssignable"
module_kind_name module_kind.BadAttribute = codes "BadAttribute"
module_kind_name module_kind.MissingBound = codes "MissingBound"
module_kind_name module_kind.AttributeClash = codes "AttributeClash"
module_kind_name module_kind.BadBitRange = codes "BadBitRange"
module_kind_name module_kind.LiteralRange = codes "LiteralRange"
module_kind_name module_kind.NotConstant = codes "NotConstant"
module_kind_name module_kind.BadRegex = codes "BadRegex"
module_kind_name module_kind.EmptyToken = codes "EmptyToken"
module_kind_name module_kind.NoLookAhead = codes "NoLookAhead"
module_kind_name module_kind.LookAheadClash = codes "LookAheadClash"
module_kind_name module_kind.UnknownHook = codes "UnknownHook"
module_kind_name module_kind.SelfOutside = codes "SelfOutside"
module_kind_name module_kind.MissingReturn = codes "MissingReturn"
module_kind_name module_kind.OutsideLoop = codes "OutsideLoop"
module_kind_name module_kind.WrongArguments = codes "WrongArguments"
module_kind_name module_kind.FilterPlace = codes "FilterPlace"
module_kind_name module_kind.SyncNoToken = codes "SyncNoToken"
module_kind_name module_kind.HookSeesState = codes "HookSeesState"
module_kind_name module_kind.TooMany = codes "TooMany"
module_kind_name module_kind.OutOfProfile = codes "OutOfProfile"
module_kind_name module_kind.TooDeep = codes "TooDeep"
module_kind_name module_kind.NoParser = codes "NoParser"

abbrev pub run_kind_name : PKind → List ℕ
run_kind_name run_kind.Short = codes "Short"
run_kind_name run_kind.NoMatch = codes "NoMatch"
run_kind_name run_kind.NoAlternative = codes "NoAlternative"
run_kind_name run_kind.Requires = codes "Requires"
run_kind_name run_kind.SizeLeft = codes "SizeLeft"
run_kind_name run_kind.SizeOver = codes "SizeOver"
run_kind_name run_kind.BadSize = codes "BadSize"
run_kind_name run_kind.Overflow = codes "Overflow"
run_kind_name run_kind.DivZero = codes "DivZero"
run_kind_name run_kind.BadShift = codes "BadShift"
run_kind_name run_kind.Index = codes "Index"
run_kind_name run_kind.MissingKey = codes "MissingKey"
run_kind_name run_kind.Unset = codes "Unset"
run_kind_name run_kind.CastRange = codes "CastRange"
run_kind_name run_kind.Assert = codes "Assert"
run_kind_name run_kind.Throw = codes "Throw"
run_kind_name run_kind.NoTry = codes "NoTry"
run_kind_name run_kind.Rejected = codes "Rejected"
run_kind_name run_kind.Turns = codes "Turns"
run_kind_name run_kind.Depth = codes "Depth"
run_kind_name run_kind.LateInitial = codes "LateInitial"
run_kind_name run_kind.FiberDepth = codes "FiberDepth"
run_kind_name run_kind.InputBefore = codes "InputBefore"
run_kind_name run_kind.BadConversion = codes "BadConversion"
run_kind_name run_kind.SinkClosed = codes "SinkClosed"
run_kind_name run_kind.Gap = codes "Gap"
run_kind_name run_kind.ForwardAfterEnd = codes "ForwardAfterEnd"
run_kind_name run_kind.BadBase64 = codes "BadBase64"

abbrev pub batch_kind_name : BKind → List ℕ
batch_kind_name batch_kind.BadHeader = codes "BadHeader"
batch_kind_name batch_kind.BadRecord = codes "BadRecord"
batch_kind_name batch_kind.UnknownFlow = codes "UnknownFlow"
batch_kind_name batch_kind.FlowTwice = codes "FlowTwice"
batch_kind_name batch_kind.UnknownParser = codes "UnknownParser"
batch_kind_name batch_kind.CutShort = codes "CutShort"

-- the number behind the letter M
abbrev pub module_kind_number : MKind → ℕ
module_kind_number module_kind.NotText = 1
module_kind_number module_kind.BadToken = 2
module_kind_number module_kind.Unexpected = 3
module_kind_number module_kind.TooLarge = 4
module_kind_number module_kind.ModuleNotFound = 5
module_kind_number module_kind.ModuleTwice = 6
module_kind_number module_kind.NameTwice = 7
module_kind_number module_kind.UnknownName = 8
module_kind_number module_kind.TypeMismatch = 9
module_kind_number module_kind.NotAssignable = 10
module_kind_number module_kind.BadAttribute = 11
module_kind_number module_kind.MissingBound = 12
module_kind_number module_kind.AttributeClash = 13
module_kind_number module_kind.BadBitRange = 14
module_kind_number module_kind.LiteralRange = 15
module_kind_number module_kind.NotConstant = 16
module_kind_number module_kind.BadRegex = 17
module_kind_number module_kind.EmptyToken = 18
module_kind_number module_kind.NoLookAhead = 19
module_kind_number module_kind.LookAheadClash = 20
module_kind_number module_kind.UnknownHook = 21
module_kind_number module_kind.SelfOutside = 22
module_kind_number module_kind.MissingReturn = 23
module_kind_number module_kind.OutsideLoop = 24
module_kind_number module_kind.WrongArguments = 25
module_kind_number module_kind.FilterPlace = 26
module_kind_number module_kind.SyncNoToken = 27
module_kind_number module_kind.HookSeesState = 28
module_kind_number module_kind.TooMany = 29
module_kind_number module_kind.OutOfProfile = 30
module_kind_number module_kind.TooDeep = 31
module_kind_number module_kind.NoParser = 32
