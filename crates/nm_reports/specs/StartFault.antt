-- The exit statuses of the server.
use Rattle.std.specs.Prelude.{◌≡◌, ◌⊎◌, ◌≤◌, ℕ}
use Rattle.clap.specs.declared.error.kind.ErrorKind.{ErrorKind}
use Rattle.clap.specs.declared.error.kind.ErrorKind.TheVariants.{DisplayHelp, DisplayVersion}
use Rattle.clap.specs.declared.error.kind.ErrorKind.TheVariants.{OutOfMemory}
use Rattle.nm_reports.specs.declared.start_fault.StartFault.{StartFault}
use Rattle.nm_reports.specs.declared.start_fault.StartFault.TheVariants as fault

-- the exit status where the server does not start, or does not end well
abbrev pub status_of : StartFault → ℕ
status_of fault.NotUtf8 = 2
status_of (fault.NoLegMoved leg) = 2
status_of (fault.NothingMoved leg) = 2
status_of fault.SamePlace = 2
status_of fault.NoPlace = 2
status_of fault.StaysInside = 2
status_of fault.NothingToShrink = 2
status_of fault.NoStandardStreams = 3
status_of (fault.FewDescriptors needed) = 3
status_of (fault.SmallStack needed) = 3
status_of (fault.SmallAddressSpace threads) = 3
status_of fault.TooManyLegs = 3
status_of (fault.NoMaster leg) = 3
status_of (fault.TwoMasters master forced) = 3
status_of (fault.NoLegToAdd leg) = 3
status_of (fault.NothingToAddTo leg) = 3
status_of fault.AlreadyShrunk = 3
status_of (fault.TwoOfLeg one other leg) = 3
status_of (fault.LegBeyond place leg) = 3
status_of fault.BadName = 3
status_of (fault.CannotOpen leg why) = 3
status_of (fault.InUse leg) = 3
status_of (fault.BadLength leg bytes) = 3
status_of (fault.OtherLength leg bytes other other_bytes) = 3
status_of (fault.OverFileLimit leg bytes limit) = 3
status_of (fault.HasSuperblock leg) = 3
status_of (fault.HeldBeside leg) = 3
status_of (fault.KeptBeside leg) = 3
status_of (fault.HeldInside leg) = 3
status_of (fault.HoldsData leg) = 3
status_of (fault.CannotMove leg why) = 3
status_of (fault.NoPlaceBeside leg) = 3
status_of (fault.CannotSave leg why) = 3
status_of (fault.OtherMirror leg) = 3
status_of (fault.OtherLeg leg said) = 3
status_of (fault.WasLeg leg other) = 3
status_of fault.NotFirstStart = 3
status_of fault.NotWhole = 3
status_of (fault.OtherStripes asked said) = 3
status_of (fault.NotInSync leg) = 3
status_of fault.NoRandomNumbers = 3
status_of (fault.CannotRead leg) = 3
status_of (fault.CannotListen port why) = 4
status_of fault.Memory = 5
status_of fault.CannotClose = 6
status_of (fault.StripesStopped stopped all) = 8
status_of fault.LegsDiffer = 7
status_of (fault.MayBeNewer leg) = 7
status_of (fault.AnotherFile leg) = 7
status_of (fault.WasChanged leg recorded found) = 7
status_of fault.ChangedDiffer = 7
status_of (fault.WentApart leg other) = 7
status_of (fault.PlacesApart leg) = 7
status_of (fault.NoneInSync stripe) = 7
status_of (fault.NotKnown leg) = 7

-- the exit status where the words of the command line are none, or ask for the help or the version
abbrev pub status_of_words : ErrorKind → ℕ
status_of_words DisplayHelp = 0
status_of_words DisplayVersion = 0
status_of_words OutOfMemory = 5
status_of_words other = 2

-- an exit status by which the server tells that it did not start, or did not end well
abbrev pub TellsFault : ℕ → Type 0
TellsFault status = (2 ≤ status) × (status ≤ 8)

-- an exit status of the server
abbrev pub IsExitStatus : ℕ → Type 0
IsExitStatus status = (status ≡ 0) ⊎ TellsFault status
