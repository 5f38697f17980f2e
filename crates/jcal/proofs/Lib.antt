pub mod FormFits
pub mod Integers
pub mod RecursBack
pub mod SafeTexts
pub mod SpellsBack
pub mod TreeTokens
pub mod ValuesBack
