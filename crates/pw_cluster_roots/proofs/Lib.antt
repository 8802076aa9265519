mod Lists
mod RoundLaws
mod InnerLaws
mod RootLaws
mod NeedLaws
