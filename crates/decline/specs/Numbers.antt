-- The number of each decline.
use Rattle.std.specs.Prelude.{ℕ}
use Rattle.decline.specs.declared.Decline.{Decline}
use Rattle.decline.specs.declared.Decline.TheVariants.{Closed, AlreadyOpen, OutsideLimits, NotAllowed, OtherSize, NoSuchStation, WrongSide, BadForgery, NotIdle, NumbersUsedUp, NoSuchMessage, Ahead, PoolFull, UnfitSystem}

abbrev pub number_of : Decline → ℕ
number_of Closed = 1
number_of AlreadyOpen = 2
number_of OutsideLimits = 3
number_of NotAllowed = 4
number_of OtherSize = 5
number_of NoSuchStation = 6
number_of WrongSide = 7
number_of BadForgery = 8
number_of NotIdle = 9
number_of NumbersUsedUp = 10
number_of NoSuchMessage = 11
number_of Ahead = 12
number_of PoolFull = 13
number_of UnfitSystem = 14
